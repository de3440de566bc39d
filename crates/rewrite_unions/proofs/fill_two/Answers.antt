use Rattle.rewrite_unions.proofs.TableLaws.{two-filled}
use Rattle.rewrite_unions.proofs.fill_two.Goals as goal

pub returns : goal.returns
returns c = let a = c.args in two-filled a.table.now a.at a.a a.b a.ab a.x c.either.ensures c.either-2.ensures c.either-3.ensures
