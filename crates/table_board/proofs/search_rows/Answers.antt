-- The rows of the roles so far at the minute are counted, and the permissions of their entries are with their users.
use mathlib.Core.Path.{sym, ◌∙◌}
use native.Mathlib.Omega.{arith}
use native.Mathlib.Nat.{le_antisymm}
use Rattle.table_board.proofs.GatheredLaws.{gathered_none, gathered-few}
use Rattle.table_board.proofs.RowLaws.{searched-in, searched-out, searched-all, row-below}
use Rattle.table_board.proofs.search_rows.Goals as goal
use Rattle.table_board.proofs.search_rows.Goals.{in-Some, in_default}

pub loop-r-init : goal.loop-r-init
loop-r-init c = gathered_none _ _

pub add_row-requires : goal.add_row-requires
add_row-requires c = row-below _ _ c.args.moment.now.table.opened _ _ _ (sym c.in-Some.is ∙ c.row_at-f.ensures)

pub overflow_add-count : goal.overflow_add-count
overflow_add-count c = omega (arith, gathered-few _ _ _ _ _ c.loop-r.invariant)

pub loop-r-preserved : goal.loop-r-preserved
loop-r-preserved c =
    let i = c.loop-r.invariant in
    let o = c.args.moment.now.table.opened in
    let k = c.row_at-f.ensures in
    elim c.match-row.branch [ in-Some w ↦ rw (w.rights-is ∙ w.add_row.ensures, w.count-is) (searched-in _ _ o _ _ _ _ i _ (sym w.in-Some.is ∙ k)) | in_default w ↦ rw (w.rights-is, w.count-is) (searched-out _ _ o _ _ _ _ i (sym w.in_default.is ∙ k)) ]

pub returns : goal.returns
returns c = searched-all _ _ c.args.moment.now.table.opened _ _ _ _ (le_antisymm c.loop-r.auto.r-end c.loop-r-test.false) c.loop-r.invariant
