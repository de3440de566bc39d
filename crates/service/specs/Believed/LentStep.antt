-- One call of a service on lent bytes: what the contracts of the calls, and demand 3, speak of.
use Rattle.std.specs.Prelude.{ℕ, List}
use Rattle.source.specs.Believed.Lent.{judged_as, policy_as}
use Rattle.source.specs.declared.Kind.{Kind}
use Rattle.machine.specs.Believed.Machine.{Call, Step, service_step}
use Rattle.machine.specs.declared.Service.{Service}

abbrev pub lent_step : Kind → List ℕ → Service → Call → Step
lent_step kind s σ c = service_step (judged_as kind s) (policy_as kind s) σ c
