-- Four rows of four: neither of the last two sets, either, and both.
use Rattle.rewrite_unions.proofs.TableLaws.{four-filled}
use Rattle.rewrite_unions.proofs.fill_four.Goals as goal

pub returns : goal.returns
returns c = let a = c.args in
    four-filled a.a a.b a.c a.d c.ranges.a.fits c.ranges.b.fits c.ranges.c.fits c.ranges.d.fits a.table.now a.at _ _
    c.either-ab.ensures c.either-cd.ensures
    c.fill_two.ensures c.fill_two-2.ensures c.fill_two-3.ensures c.fill_two-4.ensures
