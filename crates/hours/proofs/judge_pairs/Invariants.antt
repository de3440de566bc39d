-- The pairs so far are not refused, and the next may start later than the last end.
use Rattle.hours.specs.Believed.HoursRefusals.{pair_judged, earliest}
use Rattle.ground.specs.Believed.Judgement.{in_turn}
use mathlib.Core.Path.{◌≡◌}
use Rattle.hours.proofs.judge_pairs.Given as goal

abbrev pub invariant-loop-j : goal.invariant-loop-j
invariant-loop-j l = (in_turn (pair_judged l.s l.cycle l.at) l.j ≡ 0) × (l.low ≡ earliest l.s l.at l.j)
