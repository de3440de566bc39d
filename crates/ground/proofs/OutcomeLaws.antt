-- Outcomes by a judgement.
--     outcome-refused, outcome-given     what a judgement that refuses gives, and one that does not
--     refused-by, given_by               the judgement behind an outcome
-- Assumes nothing.
use Prim.Native.Nat.{ℕ, zero, suc}
use mathlib.Core.Path.{◌≡◌, refl}
use native.Mathlib.Omega.{arith}
use Rattle.ground.specs.Believed.Outcome.{refused, given, outcome}

module _ {ℓ} {A : Type ℓ} where
  pub outcome-refused : (n : ℕ) (a : A) → (n ≡ 0 → ⊥) → refused n ≡ outcome n a
  unfolding outcome
  outcome-refused zero a h = absurd (h refl)
  outcome-refused (suc n) a h = refl

  pub outcome-given : (n : ℕ) (a : A) → n ≡ 0 → given a ≡ outcome n a
  unfolding outcome
  outcome-given n a h = rw h refl

  pub refused-by : (k n : ℕ) (a : A) → refused k ≡ outcome n a → (n ≡ k) × (n ≡ 0 → ⊥)
  unfolding outcome
  refused-by k zero a h = let z : ◌≡◌ {A = ℕ} 0 1 = cc in absurd (omega arith)
  refused-by k (suc n) a h = ((cc), λ z. absurd (omega arith))

  pub given_by : (b : A) (n : ℕ) (a : A) → given b ≡ outcome n a → (n ≡ 0) × (b ≡ a)
  unfolding outcome
  given_by b zero a h = (refl, (cc))
  given_by b (suc n) a h = let z : ◌≡◌ {A = ℕ} 0 1 = cc in absurd (omega arith)
