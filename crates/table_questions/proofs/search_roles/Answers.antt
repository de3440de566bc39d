-- No role so far answers.
use native.Mathlib.Nat.{le_antisymm}
use native.Mathlib.Omega.{arith}
use Rattle.ground.proofs.SearchLaws.{any_none}
use Rattle.table_questions.proofs.AskedLaws.{roles-few, row-below, role-yes, role-no, no-role}
use Rattle.table_questions.proofs.search_roles.Goals as goal

pub loop-r-init : goal.loop-r-init
loop-r-init c = any_none _

pub row_decides-requires : goal.row_decides-requires
row_decides-requires c = let q = c.requires in (q.0, q.1, row-below _ _ c.args.moment.now.table.opened _ _ _ c.row_at-f.ensures)

pub overflow_cast-result : goal.overflow_cast-result
overflow_cast-result c = omega (arith, roles-few _ _ c.args.moment.now.table.opened)

pub returns-then-row_decides : goal.returns-then-row_decides
returns-then-row_decides c =
    role-yes _ _ c.args.moment.now.table.opened _ _ _ _ c.loop-r.invariant _ (c.row_decides.ensures _ _ c.row_at-f.ensures) c.if-row_decides.true c.loop-r-test.true

pub loop-r-preserved : goal.loop-r-preserved
loop-r-preserved c = role-no _ _ c.args.moment.now.table.opened _ _ _ _ c.loop-r.invariant _ (c.row_decides.ensures _ _ c.row_at-f.ensures) c.if-row_decides.false

pub returns : goal.returns
returns c = no-role _ _ c.args.moment.now.table.opened _ _ _ _ c.loop-r.invariant (le_antisymm c.loop-r.auto.r-end c.loop-r-test.false)
