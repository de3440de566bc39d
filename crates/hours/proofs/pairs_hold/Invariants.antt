-- No pair so far has the phase.
use mathlib.Core.Path.{◌≡◌}
use mathlib.Core.Bool.{false}
use Rattle.ground.specs.Believed.Search.{any_below}
use Rattle.hours.proofs.HoldsLaws.{span_at}
use Rattle.hours.proofs.pairs_hold.Given as goal

abbrev pub invariant-loop-j : goal.invariant-loop-j
invariant-loop-j l = (any_below l.j (span_at l.s l.at l.x) ≡ false)
