-- Digits: how many a number has in decimal, and storing them from the last to the first.
--     places-low, places-high, places-most     one digit; one more than the tenth; at most as many as a power of ten bounds
--     digits-length, digit-turn, digits-front  k digits; the last digit stored before the others; all are stored
-- Assumes nothing.
use Prim.Native.Nat.{ℕ, zero, suc, ◌+◌, ◌-◌, ◌/◌, ◌%◌, ◌^◌, ◌≤◌, ◌<◌}
use mathlib.Core.Path.{◌≡◌, refl, sym, ap, ◌∙◌}
use mathlib.Core.Logic.{⊎_elim}
use mathlib.Core.List.{List, [], ◌∷◌, ◌++◌}
use native.Mathlib.Omega.{arith}
use native.Mathlib.Nat.{pow-suc, div-lt_iff_lt-mul}
use lib.Dec.{ltb}
use lib.ListN.{length, set, take, drop, length-append}
use lib.Seq.{sets, sets-eq, set_comm, take-append_seam}
use borrow.Author.Tests.{lt-ltb, le-ltb}
use Rattle.ground.specs.Believed.Choice.{pick}
use Rattle.ground.proofs.BoolLaws.{lt-or-le, pick_true, pick-false}
use Rattle.endian.proofs.WrittenLaws.{sets-append}
use Rattle.listing_lines.specs.Believed.Lines.{digit, digits, places_in, places}

-- any number of steps that is enough gives the same
enough : (s t n : ℕ) → n ≤ s → n ≤ t → places_in s n ≡ places_in t n
unfolding places_in
enough zero zero n p q = refl
enough zero (suc t) n p q = sym (pick_true (ltb n 10) 1 (suc (places_in t (n / 10))) (lt-ltb n 10 (omega arith)))
enough (suc s) zero n p q = pick_true (ltb n 10) 1 (suc (places_in s (n / 10))) (lt-ltb n 10 (omega arith))
enough (suc s) (suc t) n p q = ap (λ (k : ℕ). pick (ltb n 10) 1 (suc k)) (enough s t (n / 10) (omega arith) (omega arith))

places-turn : (n : ℕ) → places n ≡ pick (ltb n 10) 1 (suc (places (n / 10)))
unfolding places places_in
places-turn n = enough n (suc n) n (omega arith) (omega arith) ∙ ap (λ (k : ℕ). pick (ltb n 10) 1 (suc k)) (enough n (n / 10) (n / 10) (omega arith) (omega arith))

pub places-low : (n : ℕ) → n < 10 → places n ≡ 1
places-low n l = places-turn n ∙ pick_true (ltb n 10) 1 (suc (places (n / 10))) (lt-ltb n 10 l)

pub places-high : (n : ℕ) → 10 ≤ n → places n ≡ suc (places (n / 10))
places-high n l = places-turn n ∙ pick-false (ltb n 10) 1 (suc (places (n / 10))) (le-ltb n 10 l)

pub places-most : (k n : ℕ) → n < 10 ^ suc k → places n ≤ suc k
places-most zero n l = omega (arith, places-low n l)
places-most (suc k) n l =
    ⊎_elim
    (λ (h : n < 10). omega (arith, places-low n h))
    (λ (h : 10 ≤ n). omega (arith, places-high n h, places-most k (n / 10) ((div-lt_iff_lt-mul (omega arith)).1 (rw pow-suc at l))))
    (lt-or-le n 10)

pub digits-length : (b k n : ℕ) → length (digits b k n) ≡ k
unfolding digits
digits-length b zero n = refl
digits-length b (suc k) n = omega (arith, length-append (digits b k (n / b)) (digit (n % b) ∷ []), digits-length b k (n / b))

-- a store past a run of stores may come before them
sets-past : (l : List ℕ) (i : ℕ) (vs : List ℕ) (j a : ℕ) → i + length vs ≤ j → set (sets l i vs) j a ≡ sets (set l j a) i vs
sets-past l i [] j a h = refl
sets-past l i (v ∷ vs) j a h =
    sets-past (set l i v) (suc i) vs j a (omega arith) ∙ ap (λ (m : List ℕ). sets m (suc i) vs) (set_comm l i j v a (λ e. omega arith))

module _ (l : List ℕ) (b : ℕ) where
  digit-stored : (k n : ℕ) → sets (set l k (digit (n % b))) 0 (digits b k (n / b)) ≡ sets l 0 (digits b (suc k) n)
  unfolding digits
  digit-stored k n =
      let e : k ≡ 0 + length (digits b k (n / b)) = omega (arith, digits-length b k (n / b)) in
      sym (sets-past l 0 (digits b k (n / b)) k (digit (n % b)) (omega (arith, digits-length b k (n / b))))
      ∙ ap (λ (j : ℕ). set (sets l 0 (digits b k (n / b))) j (digit (n % b))) e
      ∙ sets-append l 0 (digits b k (n / b)) (digit (n % b) ∷ [])

  pub digit-turn : (k n : ℕ) {x : ℕ} → 0 < k → x ≡ digit (n % b) → sets (set l (k - 1) x) 0 (digits b (k - 1) (n / b)) ≡ sets l 0 (digits b k n)
  digit-turn k n h e =
      ap (λ (y : ℕ). sets (set l (k - 1) y) 0 (digits b (k - 1) (n / b))) e ∙ digit-stored (k - 1) n
      ∙ ap (λ (j : ℕ). sets l 0 (digits b j n)) (omega arith)

  digits-none : (k n : ℕ) → k ≡ 0 → l ≡ sets l 0 (digits b k n)
  unfolding digits
  digits-none k n e = sym (ap (λ (j : ℕ). sets l 0 (digits b j n)) e)

-- what stands in front of a text, when all k digits of n are stored there
pub digits-front : (text zeros : List ℕ) (b i rest k n : ℕ) → i ≡ 0 → k ≤ length zeros → sets text 0 (digits b i rest) ≡ sets zeros 0 (digits b k n)
    → take k text ≡ digits b k n
digits-front text zeros b i rest k n e l h =
    let ds = digits b k n in
    let long = digits-length b k n in
    ap (take k) (digits-none text b i rest e ∙ h ∙ sets-eq ds zeros 0 (omega (arith, long)))
    ∙ ap (λ (j : ℕ). take j (ds ++ drop (0 + length ds) zeros)) (sym long)
    ∙ take-append_seam ds (drop (0 + length ds) zeros)
