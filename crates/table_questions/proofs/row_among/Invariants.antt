-- Of the rows before what is left only the last may cover the minute, and none of those after does.
use Rattle.std.proofs.Common.{◌-◌}
use Rattle.table_questions.proofs.AmongLaws.{Left}
use Rattle.table_questions.proofs.row_among.Given as goal

abbrev pub invariant-loop-a : goal.invariant-loop-a
invariant-loop-a l = Left l.moment.table.bytes.now l.role l.moment.minute l.first l.past l.a l.b

abbrev pub decreases-loop-a : goal.decreases-loop-a
decreases-loop-a l = l.b - l.a
