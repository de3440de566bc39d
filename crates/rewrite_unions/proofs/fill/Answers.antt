-- The first q groups are in the table.
use Rattle.std.proofs.Common.{arith, refl}
use Rattle.rewrite_unions.proofs.TableLaws.{filled_more, tabled-some}
use Rattle.rewrite_unions.proofs.fill.Goals as goal

pub returns-then-low-k-eq0 : goal.returns-then-low-k-eq0
returns-then-low-k-eq0 c = let a = c.args in let l = c.loop-q in
    tabled-some a.sets.now l.table l.q l.invariant.1 a.used _ (omega arith) c.requires.0 refl c.if-low-k-eq0.true

pub loop-q-preserved : goal.loop-q-preserved
loop-q-preserved c = let a = c.args in let l = c.loop-q in
    filled_more a.sets.now l.table _ l.q l.invariant.1 l.invariant.0 (omega arith) c.fill_four.ensures
