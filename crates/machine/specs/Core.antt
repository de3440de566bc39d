-- The calls as the code takes them apart: from a policy's counts and the set of those who hold a permission, with no bytes.
use Rattle.std.specs.Prelude.{ℕ}
use Rattle.ground.specs.Believed.Judgement.{◌or_else◌}
use Rattle.ground.specs.Believed.Outcome.{given}
use Rattle.bitset.specs.Believed.Sets.{has, insert, remove, difference, count}
use Rattle.machine.specs.Believed.Machine.{Step, closed, done, state, state_judged, open_judged, close_judged, settled}
use Rattle.machine.specs.declared.Service.{Service}

unfoldable pub closed_step : ℕ → Service → ℕ → Step
closed_step users σ u = settled (state_judged users σ or_else close_judged users σ u) done (state σ.now (remove σ.«open» u)) σ

-- after 40
unfoldable pub opened_step : ℕ → ℕ → Service → ℕ → Step
opened_step users holders σ u = settled (open_judged users (has holders u) σ u) done (state σ.now (insert σ.«open» u)) σ

-- an advance that is not refused, to minute m, where the set stays
unfoldable pub moved_step : ℕ → Service → ℕ → Step
moved_step stays σ m =
    record { outcome = given (closed (count (difference σ.«open» stays))); after = state m stays }
