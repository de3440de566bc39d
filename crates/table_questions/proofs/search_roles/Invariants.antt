-- No role so far answers. Nothing is known of where a search begins.
use Rattle.table_questions.proofs.AskedLaws.{NoneBelow}
use Rattle.table_questions.proofs.search_roles.Given as goal

abbrev pub invariant-loop-r : goal.invariant-loop-r
invariant-loop-r l = NoneBelow l.moment.table.bytes.now l.u l.p l.moment.minute l.r
