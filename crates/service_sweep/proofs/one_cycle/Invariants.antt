-- The sweep has come from the turn's minute to y.
use Rattle.std.proofs.Common.{◌+◌, ◌-◌, ◌≤◌, ◌<◌}
use Rattle.minutes.specs.Believed.Minutes.{E}
use Rattle.policy.proofs.SteadyLaws.{Swept}
use Rattle.source.specs.Inside.{policy_in, cycle_in}
use Rattle.service_sweep.proofs.one_cycle.Given as goal

abbrev pub invariant-loop-y : goal.invariant-loop-y
invariant-loop-y l =
    Swept (policy_in l.source) (cycle_in l.source) l.fn.turn.set l.fn.turn.next l.y l.e l.stays × (l.e ≤ l.b) × (0 < l.ahead) × (l.ahead ≤ E + E)

abbrev pub decreases-loop-y : goal.decreases-loop-y
decreases-loop-y l = l.b - l.y
