-- For each role so far it is known where its rows begin; the next search begins at the last one's result.
use native.Mathlib.Nat.{le_antisymm}
use native.Mathlib.Omega.{arith}
use mathlib.Core.Path.{refl, ◌∙◌}
use Rattle.table.proofs.HeaderLaws.{counts-are}
use Rattle.table_questions.proofs.StartLaws.{begins-most, first_more, below_next}
use Rattle.table_questions.proofs.AskedLaws.{roles-few}
use Rattle.table_questions.proofs.first_rows.Goals as goal

pub bounds-starts-k : goal.bounds-starts-k
bounds-starts-k c = omega (arith, roles-few _ _ c.args.table.now.opened)

pub loop-k-preserved : goal.loop-k-preserved
loop-k-preserved c =
    let o = c.args.table.now.opened in
    let b = c.first_row-from.ensures in
    (first_more _ _ _ c.loop-k.invariant.0 (omega (arith, roles-few _ _ o)) _ b _ refl, begins-most _ _ o _ _ b, below_next _ _ _ b)

pub returns : goal.returns
returns c = rw (← (le_antisymm c.loop-k.auto.k-end c.loop-k-test.false ∙ (counts-are _ _ c.args.table.now.opened.counts).roles)) c.loop-k.invariant.0
