-- What judging an hours record answers: a refusal, or the number of its pairs.
use Rattle.std.specs.Prelude.{ℕ, List}
use Rattle.ground.specs.Believed.Outcome.{Outcome, outcome}
use Rattle.hours.specs.Believed.HoursBytes.{pairs_at}
use Rattle.hours.specs.Believed.HoursRefusals.{hours_judged}

unfoldable pub hours_outcome : List ℕ → ℕ → ℕ → ℕ → Outcome ℕ
hours_outcome s c at total = outcome (hours_judged s c at total) (pairs_at s at)
