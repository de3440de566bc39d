-- The first pair that ends after the phase is from `low` to `high`.
use Prim.Native.Nat.{◌-◌}
use Rattle.hours_times.proofs.SpanLaws.{Halved}
use Rattle.hours_times.proofs.first_ending.Given as goal

abbrev pub invariant-loop-low : goal.invariant-loop-low
invariant-loop-low l = Halved l.s l.at l.x l.n l.low l.high

abbrev pub decreases-loop-low : goal.decreases-loop-low
decreases-loop-low l = l.high - l.low
