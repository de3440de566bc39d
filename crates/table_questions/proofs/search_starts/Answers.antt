-- No role so far answers.
use native.Mathlib.Nat.{le_antisymm}
use native.Mathlib.Omega.{arith}
use Rattle.ground.proofs.SearchLaws.{any_none}
use Rattle.table_questions.proofs.AskedLaws.{roles-few, row-below, role-yes, role-no, no-role}
use Rattle.table_questions.proofs.search_starts.Goals as goal

pub loop-role-init : goal.loop-role-init
loop-role-init c = any_none _

pub row_decides-requires : goal.row_decides-requires
row_decides-requires c = let q = c.requires in (q.0, q.1, row-below _ _ c.args.moment.now.table.opened _ _ _ c.row_by-row.ensures)

pub overflow_cast-result : goal.overflow_cast-result
overflow_cast-result c = omega (arith, roles-few _ _ c.args.moment.now.table.opened)

pub returns-then-row_decides : goal.returns-then-row_decides
returns-then-row_decides c =
    role-yes _ _ c.args.moment.now.table.opened _ _ _ _ c.loop-role.invariant _ (c.row_decides.ensures _ _ c.row_by-row.ensures) c.if-row_decides.true c.loop-role-test.true

pub loop-role-preserved : goal.loop-role-preserved
loop-role-preserved c = role-no _ _ c.args.moment.now.table.opened _ _ _ _ c.loop-role.invariant _ (c.row_decides.ensures _ _ c.row_by-row.ensures) c.if-row_decides.false

pub returns : goal.returns
returns c = no-role _ _ c.args.moment.now.table.opened _ _ _ _ c.loop-role.invariant (le_antisymm c.loop-role.auto.role-end c.loop-role-test.false)
