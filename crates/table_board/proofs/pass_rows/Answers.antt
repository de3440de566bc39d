-- The rows so far that cover the minute are counted, and the permissions of their entries are with their users.
use mathlib.Core.Path.{◌∙◌}
use native.Mathlib.Omega.{arith}
use native.Mathlib.Nat.{le_antisymm}
use Rattle.table_board.proofs.GatheredLaws.{gathered_none, gathered-few}
use Rattle.table_board.proofs.RowLaws.{passed-in, passed-out, passed-all}
use Rattle.table_board.proofs.pass_rows.Goals as goal
use Rattle.table_board.proofs.pass_rows.Goals.{then-row_covers, else-row_covers}

pub loop-i-init : goal.loop-i-init
loop-i-init c = gathered_none _ _

pub overflow_add-rows : goal.overflow_add-rows
overflow_add-rows c = omega (arith, gathered-few _ _ _ _ _ c.loop-i.invariant)

pub loop-i-preserved : goal.loop-i-preserved
loop-i-preserved c =
    let i = c.loop-i.invariant in
    let o = c.args.moment.now.table.opened in
    let v = c.row_covers.ensures in
    elim c.if-row_covers.branch [ then-row_covers w ↦ rw (w.rights-is ∙ w.add_row.ensures, w.rows-is) (passed-in _ _ o _ _ _ _ i _ v w.if-row_covers.true) | else-row_covers w ↦ rw (w.rights-is, w.rows-is) (passed-out _ _ o _ _ _ _ i _ v w.if-row_covers.false) ]

pub returns : goal.returns
returns c = passed-all _ _ c.args.moment.now.table.opened _ _ _ _ (le_antisymm c.loop-i.auto.i-end c.loop-i-test.false) c.loop-i.invariant
