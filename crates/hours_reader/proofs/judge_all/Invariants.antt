-- The records so far are not refused, and their pairs are counted.
use Rattle.hours_reader.proofs.WalkLaws.{Walked}
use Rattle.hours_reader.proofs.judge_all.Given as goal

abbrev pub invariant-loop-k : goal.invariant-loop-k
invariant-loop-k l = Walked l.s l.cycle l.from l._k l.at l.total
