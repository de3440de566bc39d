-- No role so far answers.
use Rattle.table_questions.proofs.AskedLaws.{NoneBelow}
use Rattle.table_questions.proofs.search_starts.Given as goal

abbrev pub invariant-loop-role : goal.invariant-loop-role
invariant-loop-role l = NoneBelow l.moment.table.bytes.now l.u l.p l.moment.minute l.role
