-- The first minute from a on whose remainder by c lies from o to before e.
--     first-low, first-here, first-late     by the phase of a
--     first-ge, first-left, first-right     it is not before a, and its remainder lies there
--     first-le                              no earlier minute will do
-- Assumes nothing.
use Rattle.ground.proofs.BoolLaws.{by-ltb}
use Prim.Native.Nat.{ℕ, suc, ◌+◌, ◌-◌, ◌*◌, ◌/◌, ◌%◌, ◌≤◌, ◌<◌}
use mathlib.Core.Path.{◌≡◌, ap}
use mathlib.Core.Logic.{◌⊎◌, inl, inr}
use native.Mathlib.Nat.{mod-lt, div-add-mod', mul-le-mul_right, lt_of_not-le}
use native.Mathlib.Decide.{dec_le}
use native.Mathlib.Omega.{arith}
use borrow.Author.Tests.{lt-ltb, le-ltb}
use lib.Dec.{ltb}
use lib.Arith.{digits_mod}
use Rattle.ground.specs.Believed.Choice.{pick}
use Rattle.minutes.specs.First.{first_in}

-- a's phase m is before o, in the span or past it
module _ (c a o e : ℕ) where
  pub first-low : (m : ℕ) → m ≡ a % c → m < o → a + (o - m) ≡ first_in c a o e
  unfolding first_in
  first-low m q h = rw (← q, lt-ltb m o h)

  pub first-here : (m : ℕ) → m ≡ a % c → o ≤ m → m < e → a ≡ first_in c a o e
  unfolding first_in
  first-here m q h k = rw (← q, le-ltb m o h, lt-ltb m e k)

  pub first-late : (m : ℕ) → m ≡ a % c → o ≤ m → e ≤ m → a + (c - m) + o ≡ first_in c a o e
  unfolding first_in
  first-late m q h k = rw (← q, le-ltb m o h, le-ltb m e k)

module _ (c a o e : ℕ) (pos : 0 < c) (oe : o < e) (ec : e ≤ c) where
  -- a's remainder is before the phase, in it or past it
  by-phase {ℓ} : (P : ℕ → Type ℓ) → (a % c < o → P (a + (o - a % c))) → (o ≤ a % c → a % c < e → P a) → (e ≤ a % c → P (a + (c - a % c) + o))
      → P (first_in c a o e)
  unfolding first_in
  by-phase P before in-it past =
      by-ltb (λ b. P (pick b (a + (o - a % c)) (pick (ltb (a % c) e) a (a + (c - a % c) + o)))) (a % c) o before
      (λ h. by-ltb (λ b. P (pick b a (a + (c - a % c) + o))) (a % c) e (in-it h) past)

  pub first-ge : a ≤ first_in c a o e
  first-ge = by-phase (λ t. a ≤ t) (λ h. omega arith) (λ h k. omega arith) (λ h. omega arith)

  -- its remainder
  rem_of : (t q r : ℕ) → t ≡ q * c + r → r < c → t % c ≡ r
  rem_of t q r h k = rw h (digits_mod q k)

  first-rem : (o ≤ first_in c a o e % c) × (first_in c a o e % c < e)
  first-rem =
      by-phase (λ t. (o ≤ t % c) × (t % c < e))
      (λ h. at-o _ (rem_of _ (a / c) o (omega (arith, div-add-mod' a c)) (omega arith)))
      (λ h k. (h, k))
      (λ h. at-o _ (rem_of _ (suc (a / c)) o (omega (arith, div-add-mod' a c, mod-lt a pos)) (omega arith)))
    where
      at-o : (t : ℕ) → t % c ≡ o → (o ≤ t % c) × (t % c < e)
      at-o t h = (omega arith, omega arith)

  pub first-left : o ≤ first_in c a o e % c
  first-left = first-rem.0

  pub first-right : first_in c a o e % c < e
  first-right = first-rem.1

  -- two minutes lie in one turn of the cycle, or the later in a later turn
  turns : (t : ℕ) → a ≤ t → (t / c * c ≡ a / c * c) ⊎ (a / c * c + c ≤ t / c * c)
  turns t at = go (dec_le (t / c) (a / c)) (dec_le (a / c) (t / c))
    where
      go : Dec (t / c ≤ a / c) → Dec (a / c ≤ t / c) → (t / c * c ≡ a / c * c) ⊎ (a / c * c + c ≤ t / c * c)
      go (no n) q = inr (omega (arith, mul-le-mul_right c (lt_of_not-le n)))
      go (yes h) (yes k) = inl (ap (λ z. z * c) (omega arith))
      go (yes h) (no n) = absurd (omega (arith, mul-le-mul_right c (lt_of_not-le n), div-add-mod' a c, div-add-mod' t c, mod-lt t pos))

  pub first-le : (t : ℕ) → a ≤ t → o ≤ t % c → t % c < e → first_in c a o e ≤ t
  first-le t at lo hi = by-phase (λ s. s ≤ t) (λ h. before h (turns t at)) (λ h k. at) (λ h. past h (turns t at))
    where
      before : a % c < o → (t / c * c ≡ a / c * c) ⊎ (a / c * c + c ≤ t / c * c) → a + (o - a % c) ≤ t
      before h (inl z) = omega (arith, div-add-mod' a c, div-add-mod' t c)
      before h (inr z) = omega (arith, div-add-mod' a c, div-add-mod' t c)

      past : e ≤ a % c → (t / c * c ≡ a / c * c) ⊎ (a / c * c + c ≤ t / c * c) → a + (c - a % c) + o ≤ t
      past h (inl z) = absurd (omega (arith, div-add-mod' a c, div-add-mod' t c))
      past h (inr z) = omega (arith, div-add-mod' a c, div-add-mod' t c, mod-lt a pos)
