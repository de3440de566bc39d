-- The records so far that hold at the minute are gathered.
use Rattle.hours.specs.Believed.Hours.{holds}
use Rattle.hours_reader.proofs.WalkLaws.{Gathered}
use Rattle.hours_reader.proofs.holding_at.Given as goal

abbrev pub invariant-loop-k : goal.invariant-loop-k
invariant-loop-k l = Gathered l.s l.from l.h (λ r. holds l.cycle r l.t) l.set l.at l.k
