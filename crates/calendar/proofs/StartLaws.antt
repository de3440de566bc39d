-- Laws of starts: a first start, and a step from each to the next. The starts of years and those of months are such.
--     past             what is none of the first n numbers is at least n
--     later            a later start is not lower
--     place_in         what a search finds is the place of x
--     place_is         the place of x is what a search finds
--     guess-below, guess-stays, guess-next
--                      where one computed test shows that start k is near w * k, the place of x is x / w or the next
-- Assumes nothing.
use Prim.Native.Nat.{ℕ, zero, suc, ◌+◌, ◌-◌, ◌*◌, ◌/◌, ◌≤◌, ◌<◌, zero-le}
use mathlib.Core.Path.{◌≡◌, refl, ap, ◌∙◌}
use mathlib.Core.Bool.{Bool, true, false, ◌&&◌}
use mathlib.Core.Logic.{⊎_elim}
use native.Mathlib.Nat.{add-zero, zero-add, add-suc, suc-add, le_of_suc-le-suc, not-suc-le-zero, eq-or-lt_of_le, le_refl, le_of_lt, div-lt_iff_lt-mul, mul-div-le, lt-mul-div-succ}
use native.Mathlib.Numerals.{add-one, add-one-le}
use native.Mathlib.Omega.{arith}
use lib.Dec.{T, leb, leb→le}
use borrow.Author.Tests.{le-leb, lt-leb, leb-true, leb-false}
use Rattle.ground.specs.Believed.Choice.{pick}
use Rattle.ground.specs.Believed.Search.{highest_below}
use Rattle.ground.proofs.BoolLaws.{and_l, and_r, pick_true, pick-false}

-- x is none of the first n numbers, as the last arm of a `match` has it
abbrev pub None : ℕ → ℕ → Type 0
None zero x = Unit {0}
None (suc n) x = None n x × (x ≡ n → ⊥)

pub past : (n x : ℕ) → None n x → n ≤ x
past zero x h = zero-le
past (suc n) x h = omega (arith, past n x h.0, h.1)

-- n times over, from place k and its start s: the next start is at least w * k and at most w * suc k
abbrev pub near : (ℕ → ℕ) → ℕ → ℕ → ℕ → ℕ → Bool
near step w zero k s = true
near step w (suc n) k s = leb (w * k) (s + step k) && leb (s + step k) (w * suc k) && near step w n (suc k) (s + step k)

-- of n places, the one at or after whose start x lies, and before the next start
pub record Placed (n : ℕ) (start : ℕ → ℕ) (x k : ℕ) : Type 0 where
  pub below : k < n
  pub from : start k ≤ x
  pub to : x < start (suc k)

abbrev pub place : ℕ → (ℕ → ℕ) → ℕ → ℕ
place n start x = highest_below n (λ k. leb (start k) x)

module _ (start step : ℕ → ℕ) (next : (k : ℕ) → start (suc k) ≡ start k + step k) where
  on : (d i : ℕ) → start i ≤ start (i + d)
  on zero i = rw add-zero (omega arith)
  on (suc d) i = rw add-suc (omega (arith, next (i + d), on d i))

  pub later : (i j : ℕ) → i ≤ j → start i ≤ start j
  later i j h = let e : i + (j - i) ≡ j = omega arith in rw e at (on (j - i) i)

  pub place_in : (n x : ℕ) → start 0 ≤ x → x < start n → Placed n start x (place n start x)
  unfolding highest_below
  place_in zero x a b = absurd (omega arith)
  place_in (suc n) x a b = go (leb (start n) x) refl (place_in n x a)
    where
      go : (t : Bool) → leb (start n) x ≡ t → (x < start n → Placed n start x (place n start x))
          → Placed (suc n) start x (pick t n (place n start x))
      go true e ih = record { below = le_refl (suc n); from = leb-true (start n) x e; to = b }
      go false e ih = let p = ih (leb-false (start n) x e) in omega arith

  pub place_is : (n x k : ℕ) → Placed n start x k → place n start x ≡ k
  unfolding highest_below
  place_is zero x k p = absurd (not-suc-le-zero p.below)
  place_is (suc n) x k p =
      ⊎_elim
      (λ (e : k ≡ n). rw (← e) (pick_true _ _ _ (le-leb (start k) x p.from)))
      (λ (m : k < n).
      pick-false _ _ _ (lt-leb (start n) x (omega (arith, later (suc k) n m)))
      ∙ place_is n x k (record { below = m; from = p.from; to = p.to }))
      (eq-or-lt_of_le (le_of_suc-le-suc p.below))

  near-from : (w n k i : ℕ) → T (near step w n k (start k)) → i < n
      → (w * (k + i) ≤ start (suc (k + i))) × (start (suc (k + i)) ≤ w * suc (k + i))
  near-from w zero k i t h = absurd (not-suc-le-zero h)
  near-from w (suc n) k zero t h =
      let l = leb (w * k) (start k + step k) in
      let u = leb (start k + step k) (w * suc k) in
      let b = and_l (l && u) _ t in
      rw (add-zero, next k) (leb→le (w * k) (start k + step k) (and_l l u b), leb→le (start k + step k) (w * suc k) (and_r l u b))
  near-from w (suc n) k (suc i) t h =
      let b = leb (w * k) (start k + step k) && leb (start k + step k) (w * suc k) in
      rw (add-suc, ← suc-add) (near-from w n (suc k) i (rw (next k) (and_r b _ t)) (le_of_suc-le-suc h))

  module _ (begins : start 0 ≡ 0) (w n : ℕ) (pos : 0 < w) (close : T (near step w n 0 (start 0))) (x : ℕ) (ends : x < start n) where
    near-at : (i : ℕ) → i < n → (w * i ≤ start (suc i)) × (start (suc i) ≤ w * suc i)
    near-at i h = rw zero-add at (near-from w n 0 i close h)

    high : (k : ℕ) → k ≤ n → start k ≤ w * k
    high zero h = omega arith
    high (suc k) h = (near-at k h).1

    pub guess-below : x / w < n
    guess-below = (div-lt_iff_lt-mul pos).1 (omega (arith, high n (le_refl n)))

    guess-low : start (x / w) ≤ x
    guess-low = omega (arith, high (x / w) (le_of_lt guess-below), mul-div-le x w)

    pub guess-stays : x < start (x / w + 1) → place n start x ≡ x / w
    guess-stays h = place_is n x (x / w) (record { below = guess-below; from = guess-low; to = rw (← (add-one (x / w))) h })

    pub guess-next : start (x / w + 1) ≤ x → place n start x ≡ x / w + 1
    guess-next h =
        let k = x / w + 1 in
        let l : k < n
        = ⊎_elim (λ (e : k ≡ n). absurd (omega (arith, ap start e))) (λ (m : k < n). m) (eq-or-lt_of_le (add-one-le guess-below)) in
        place_is n x k (record { below = l; from = h; to = omega (arith, (near-at k l).0, lt-mul-div-succ x pos) })
