-- The rows before what is left are of lower roles, and those after it are not.
use Rattle.std.proofs.Common.{◌-◌}
use Rattle.table_questions.proofs.StartLaws.{Between}
use Rattle.table_questions.proofs.first_row.Given as goal

abbrev pub invariant-loop-a : goal.invariant-loop-a
invariant-loop-a l = Between l.table.bytes.now l.role l.a l.b

abbrev pub decreases-loop-a : goal.decreases-loop-a
decreases-loop-a l = l.b - l.a
