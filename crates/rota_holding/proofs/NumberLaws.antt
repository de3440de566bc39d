-- References by number.
--     always-as, numbered-as            the number that the code finds
--     number_small                      it is below 64
--     ref-by-number                     a reference holds where its number is in the set, with 63
--     ref-kept                          it still does by a smaller set that has its number
-- Assumes nothing.
use Prim.Native.Nat.{ℕ, ◌%◌, ◌≤◌, ◌<◌}
use mathlib.Core.Path.{◌≡◌, refl, sym, ap, ◌∙◌}
use mathlib.Core.Bool.{true, false}
use native.Mathlib.Nat.{mod-lt, zero-lt-suc}
use native.Mathlib.Omega.{arith}
use Rattle.ground.proofs.BoolLaws.{and_both}
use Rattle.bitset.specs.Believed.Sets.{has, insert, intersection}
use Rattle.bitset.proofs.SetLaws.{has-intersection, insert-self, insert-other}
use Rattle.hours.specs.Believed.Hours.{dangling}
use Rattle.hours.specs.Inside.{ref_in}
use Rattle.hours.specs.declared.HoursRef.{HoursRef}
use Rattle.hours.specs.declared.HoursRef.TheVariants.{Always, Numbered}
use Rattle.hours_reader.proofs.RefLaws.{numbered_below}
use Rattle.rota_holding.specs.Rests.{number_of}

-- a reference q, which was read as r
module _ {n : ℕ} {r q : HoursRef} (eq : r ≡ q) where
  pub always-as : r ≡ Always → n ≡ 63 → n % 64 ≡ number_of q
  unfolding number_of
  always-as e en = let z : n % 64 ≡ 63 = omega arith in z ∙ ap number_of (sym e ∙ eq)

  pub numbered-as : (k : ℕ) → r ≡ Numbered k → n ≡ k → n % 64 ≡ number_of q
  unfolding number_of
  numbered-as k e en = ap (λ (i : ℕ). i % 64) en ∙ ap number_of (sym e ∙ eq)

pub number_small : (r : HoursRef) → number_of r < 64
unfolding number_of
number_small Always = omega arith
number_small (Numbered k) = mod-lt k (zero-lt-suc 63)

always-is : number_of Always ≡ 63
unfolding number_of
always-is = refl

module _ (h : ℕ) (few : h ≤ 32) where
  -- of a reference to a record
  as_is : (k : ℕ) → dangling h (Numbered k) ≡ false → (k < 32) × (number_of (Numbered k) ≡ k)
  unfolding number_of
  as_is k d = let l : k < h = numbered_below h k (Numbered k) refl d in (omega arith, omega arith)

  pub ref-by-number : (set : ℕ) (r : HoursRef) → dangling h r ≡ false → ref_in set r ≡ has (insert set 63) (number_of r)
  unfolding ref_in
  ref-by-number set Always d = sym (ap (has (insert set 63)) always-is ∙ insert-self set 63 (omega arith))
  ref-by-number set (Numbered k) d =
      let n = as_is k d in
      sym (ap (has (insert set 63)) n.1 ∙ insert-other set 63 k (omega (arith, n.0)) (λ z. omega (arith, n.0)))

  pub ref-kept : (set more : ℕ) (r : HoursRef) → dangling h r ≡ false → ref_in set r ≡ true → has more (number_of r) ≡ true → ref_in (intersection set more) r ≡ true
  unfolding ref_in
  ref-kept set more Always d e m = refl
  ref-kept set more (Numbered k) d e m =
      let n = as_is k d in
      has-intersection set more k (omega (arith, n.0)) ∙ and_both _ _ e (ap (has more) (sym n.1) ∙ m)
