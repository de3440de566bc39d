-- Of the records so far: the shortest times of those that count.
use Rattle.hours_times.proofs.SpanLaws.{Spanned}
use Rattle.hours_times.proofs.records_span.Given as goal

abbrev pub invariant-loop-k : goal.invariant-loop-k
invariant-loop-k l = Spanned l.s l.cycle l.from l.h l.t l.only l.until l.era l.at l.k
