-- The rows before what is left are of lower roles, and those after it are not.
use native.Mathlib.Omega.{arith}
use Rattle.table.proofs.HeaderLaws.{counts-are}
use Rattle.table_questions.proofs.StartLaws.{between-all, between-up, between-down}
use Rattle.table_questions.proofs.first_row.Goals as goal

pub loop-a-init : goal.loop-a-init
loop-a-init c = rw c.rows-b.ensures (between-all _ _ c.args.table.now.opened _ _ c.requires.0 c.requires.1)

pub source-requires : goal.source-requires
source-requires c = omega (arith, c.loop-a.invariant.most, c.loop-a-test.true, (counts-are _ _ c.args.table.now.opened.counts).rows)

pub loop-a-preserved-then-source-role : goal.loop-a-preserved-then-source-role
loop-a-preserved-then-source-role c =
    between-up _ _ c.args.table.now.opened _ _ _ _ _ c.loop-a.invariant (omega (arith, c.loop-a-test.true)) c.source.ensures c.if-source-role.true _ (omega arith)

pub loop-a-preserved : goal.loop-a-preserved
loop-a-preserved c =
    between-down _ _ c.args.table.now.opened _ _ _ _ _ c.loop-a.invariant (omega (arith, c.loop-a-test.true)) c.source.ensures c.if-source-role.false (omega arith)
