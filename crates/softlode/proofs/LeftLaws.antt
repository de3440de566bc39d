-- What a lent call leaves and tells, by what the call by value gives.
--     left, asked     of a call that leaves a state of its own; of an ask, which leaves the state
-- Assumes nothing.
use Rattle.std.proofs.Common.{◌≡◌, ℕ, Option, Result, Ok, Err, refl, ap, ap₂, ◌∙◌}
use Rattle.refusal.specs.Believed.Ends.{outcome_of}
use Rattle.refusal.specs.declared.Refusal.{Refusal}
use Rattle.machine.specs.Believed.Machine.{Gift, Step, answered}
use Rattle.machine.specs.Answers.{gives, stepped, remaining, answer_in, state_after}
use Rattle.machine.specs.declared.Service.{Service}
use Rattle.host_answers.specs.Believed.Told.{told_by, question_told, leaving, stepped_by}
use Rattle.host_answers.specs.declared.Told.{Told}

module _ {A : Type 0} (gift : A → Gift) (σ : Service) where
  pub left : (r : Result (A × Service) Refusal) {x : Result A Refusal} {τ : Service} {t : Told} {w : Step}
      → x ≡ answer_in r → τ ≡ state_after σ r → t ≡ told_by (gives gift x) → stepped gift σ r ≡ w → leaving τ t ≡ stepped_by w
  unfolding stepped_by
  left r ex et ea ew = ap₂ leaving et (ea ∙ ap (λ (y : Result A Refusal). told_by (gives gift y)) ex) ∙ go r ∙ ap stepped_by ew
    where
      go : (r : Result (A × Service) Refusal) → leaving (state_after σ r) (told_by (gives gift (answer_in r))) ≡ stepped_by (stepped gift σ r)
      go (Ok a) = refl
      go (Err e) = refl

pub asked : (σ : Service) (r : Result (Option ℕ) Refusal) {t : Told} {w : Step}
    → t ≡ question_told (outcome_of r) → remaining answered σ r ≡ w → leaving σ t ≡ stepped_by w
unfolding stepped_by
asked σ r ea ew = ap (leaving σ) ea ∙ go r ∙ ap stepped_by ew
  where
    go : (r : Result (Option ℕ) Refusal) → leaving σ (question_told (outcome_of r)) ≡ stepped_by (remaining answered σ r)
    go (Ok o) = refl
    go (Err e) = refl
