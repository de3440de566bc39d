-- No minute, one minute; else those who hold a permission to before the next cycle are left.
use Rattle.std.proofs.Common.{◌≡◌, ◌+◌, ◌-◌, ◌≤◌, ◌<◌}
use Rattle.minutes.specs.Believed.Minutes.{E}
use Rattle.policy.specs.Believed.Steady.{steady_over}
use Rattle.source.specs.Inside.{policy_in}
use Rattle.service_sweep.proofs.steady.Given as goal

abbrev pub invariant-loop-turn : goal.invariant-loop-turn
invariant-loop-turn l =
    (l.a ≤ l.turn.next) × (l.turn.next ≤ l.b) × (l.turn.set ≡ steady_over (policy_in l.source) l.among l.a l.turn.next) × (0 < l.turn.reach) × (l.turn.reach ≤ E + E)

abbrev pub decreases-loop-turn : goal.decreases-loop-turn
decreases-loop-turn l = l.b - l.turn.next
