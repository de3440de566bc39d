-- `best` is the first minute that the rows so far give; they are passed in blocks, and a block may be passed by its first and last row.
use Rattle.std.proofs.Common.{◌∙◌, arith}
use native.Mathlib.Nat.{le_antisymm}
use Rattle.std.proofs.lemmas.Bool.{not_from_true}
use Rattle.minutes.specs.Believed.Minutes.{E}
use Rattle.table_next.proofs.PassLaws.{pass-none, pass-idle, pass_all, pass-stop, pass-now, pass-used}
use Rattle.table.proofs.FineLaws.{table-fine}
use Rattle.table_next.proofs.first_use.Goals as goal
use Rattle.table_next.proofs.first_use.Goals.{else-loop-k-test, then-loop-k-test+then-below-source, then-loop-k-test+else-below-source+then-not-is_idle+then-best-m}

pub loop-k-init : goal.loop-k-init
unfolding E
loop-k-init c = (omega arith, pass-none _ _ _ _ _)

pub loop-k-preserved : goal.loop-k-preserved
loop-k-preserved c =
    let e = c.min.ensures in (
      omega arith,
      pass-idle _ _ c.args.table.now.opened _ _ _ _ _ _ c.loop-k.invariant.1 _ (omega (arith, c.loop-k-test.true)) (omega (arith, c.rows-rows.ensures)) _
          c.is_idle.ensures (not_from_true _ c.if-not-is_idle.false),
    )

pub returns : goal.returns
unfolding E
returns c =
    let o = c.args.table.now.opened in
    let i = c.loop-k.invariant in
    let e = c.rows-rows.ensures in
    c.then_some.ensures
    ∙ pass-used _ (table-fine _ o.clear) _ _ _ _ _
    (elim c.loop-k-test.branch [
      | else-loop-k-test w ↦ w.best-is ∙ pass_all _ _ o _ _ _ _ _ _ i.1 (le_antisymm i.0 w.loop-k-test.false ∙ e)
      | then-loop-k-test+then-below-source w ↦ w.best-is ∙ pass-stop _ _ o _ _ _ _ _ _ i.1 (omega (arith, w.loop-k-test.true)) (omega (arith, w.if-below-source.true, w.source.ensures))
      | then-loop-k-test+else-below-source+then-not-is_idle+then-best-m w ↦ w.best-is ∙ pass-now _ _ o _ _ _ _ _ _ w.pass_rows-best.ensures (omega (arith, w.min.ensures, w.loop-k-test.true)) w.if-best-m.true
    ])
