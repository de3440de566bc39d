use Rattle.rewrite_place.proofs.TableLaws.{not-started, is-started}
use Rattle.rewrite_place.proofs.start_table.Goals as goal

pub returns-then-out-size : goal.returns-then-out-size
returns-then-out-size c = let a = c.args in not-started a.out.now a.header a.size c.if-out-size.true

pub returns : goal.returns
returns c = let a = c.args in is-started a.out.now a.header a.size _ c.if-out-size.false c.write_header.ensures
