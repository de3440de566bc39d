-- What an operation ends with: one numbered refusal, or its answer.
use Rattle.std.specs.Prelude.{ℕ, zero, suc}

pub data Outcome {ℓ} (A : Type ℓ) : Type ℓ where
  refused : ℕ → Outcome A
  given : A → Outcome A

-- by a judgement: 0 gives the answer, any other number is the refusal
unfoldable pub outcome {ℓ} : {A : Type ℓ} → ℕ → A → Outcome A
outcome zero a = given a
outcome (suc n) a = refused (suc n)
