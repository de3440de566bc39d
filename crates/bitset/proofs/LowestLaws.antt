-- The lowest member of a set.
--     lowest-is, lowest-small     the trailing zeros of a word that is not 0 are its number
--     lowest-gone                 what a word and the number before it share is the set without it
-- Assumes nothing.
use mathlib.Core.Path.{◌≡◌, refl, sym, ap, ap₂, ◌∙◌}
use mathlib.Core.Bool.{Bool, true, false, ◌&&◌, not}
use mathlib.Core.Logic.{⊎_elim}
use Prim.Native.Nat.{ℕ, zero, suc, ◌-◌, ◌/◌, ◌%◌, ◌^◌, ◌<◌}
use native.Mathlib.Nat.{le_of_suc-le-suc, not-suc-le-zero, eq-or-lt_of_le}
use native.Mathlib.Omega.{arith}
use lib.Dec.{eqb, ltb, eqb-suc-suc}
use lib.Pow.{pow_pos}
use lib.Bits.{bit_and}
use lib.Count.{count_trailing_zeros, under, trailing_le}
use borrow.Author.Tests.{eq-eqb, ne_eqb, eqb-true, eqb-false, ltb-true, ltb-false}
use Rattle.bitset.specs.Believed.Sets.{has, remove, intersection, Lowest}
use Rattle.bitset.proofs.SetLaws.{has-zero, has-suc, has-none, has-past, ext, set_of-same, intersection-is}

low-in : (k x : ℕ) → count_trailing_zeros k x < k → has x (count_trailing_zeros k x) ≡ true
unfolding count_trailing_zeros
low-in zero x h = absurd (not-suc-le-zero h)
low-in (suc k) x h = go (x % 2) refl h (low-in k (x / 2))
  where
    go : (d : ℕ) → x % 2 ≡ d → under d (count_trailing_zeros k (x / 2)) < suc k
        → (count_trailing_zeros k (x / 2) < k → has (x / 2) (count_trailing_zeros k (x / 2)) ≡ true) → has x (under d (count_trailing_zeros k (x / 2))) ≡ true
    go zero e l ih = has-suc x (count_trailing_zeros k (x / 2)) ∙ ih (le_of_suc-le-suc l)
    go (suc d) e l ih = has-zero x ∙ eq-eqb (x % 2) 1 (omega arith)

low_below : (k x j : ℕ) → j < count_trailing_zeros k x → has x j ≡ false
unfolding count_trailing_zeros
low_below zero x j h = absurd (not-suc-le-zero h)
low_below (suc k) x j h = go (x % 2) refl j h (low_below k (x / 2))
  where
    go : (d : ℕ) → x % 2 ≡ d → (i : ℕ) → i < under d (count_trailing_zeros k (x / 2))
        → ((i : ℕ) → i < count_trailing_zeros k (x / 2) → has (x / 2) i ≡ false) → has x i ≡ false
    go zero e zero l ih = has-zero x ∙ ap (λ (n : ℕ). eqb n 1) e
    go zero e (suc i) l ih = has-suc x i ∙ ih i (le_of_suc-le-suc l)
    go (suc d) e i l ih = absurd (not-suc-le-zero l)

pub lowest-is : (k x : ℕ) → 0 < x → x < 2 ^ k → Lowest x (count_trailing_zeros k x)
lowest-is k x p h =
    record { member = low-in k x (⊎_elim none (λ (l : count_trailing_zeros k x < k). l) (eq-or-lt_of_le (trailing_le k x))); below = low_below k x }
  where
    none : count_trailing_zeros k x ≡ k → count_trailing_zeros k x < k
    none e =
        let z : x ≡ 0 = ext k x 0 h (pow_pos k) (λ i l. low_below k x i (omega arith) ∙ sym (has-none i)) in
        absurd (omega arith)

-- a member of a set of k bits is below k
pub lowest-small : (k x r : ℕ) → x < 2 ^ k → Lowest x r → r < k
lowest-small k x r h w = go (ltb r k) refl
  where
    go : (b : Bool) → ltb r k ≡ b → r < k
    go true e = ltb-true r k e
    go false e =
        let no : false ≡ true = sym (has-past k x r h (ltb-false r k e)) ∙ w.member in
        let z : ◌≡◌ {A = ℕ} 0 1 = cc in
        absurd (omega arith)

-- one less has no member where x has its lowest one, and above it the members of x
low-gone : (r x : ℕ) → 0 < x → Lowest x r → (j : ℕ) → (has x j && has (x - 1) j) ≡ (has x j && not (eqb j r))
low-gone zero x p w zero =
    let odd = eqb-true (x % 2) 1 (sym (has-zero x) ∙ w.member) in
    ap (λ (b : Bool). has x 0 && b) (has-zero (x - 1) ∙ ne_eqb ((x - 1) % 2) 1 (λ e. omega arith))
low-gone zero x p w (suc j) =
    let odd = eqb-true (x % 2) 1 (sym (has-zero x) ∙ w.member) in
    let half : (x - 1) / 2 ≡ x / 2 = omega arith in
    ap (λ (b : Bool). has x (suc j) && b) (has-suc (x - 1) j ∙ ap (λ (n : ℕ). has n j) half ∙ sym (has-suc x j))
    ∙ twice (has x (suc j))
    ∙ ap (λ (b : Bool). has x (suc j) && not b) (sym (ne_eqb (suc j) 0 (λ e. omega arith)))
  where
    twice : (b : Bool) → (b && b) ≡ (b && true)
    twice true = refl
    twice false = refl
low-gone (suc r) x p w zero =
    let none = w.below 0 (omega arith) in
    ap (λ (b : Bool). b && has (x - 1) 0) none ∙ ap (λ (b : Bool). b && not (eqb 0 (suc r))) (sym none)
low-gone (suc r) x p w (suc j) =
    let not-odd = eqb-false (x % 2) 1 (sym (has-zero x) ∙ w.below 0 (omega arith)) in
    let even : x % 2 ≡ 0 = omega arith in
    let half : (x - 1) / 2 ≡ x / 2 - 1 = omega arith in
    let rest : Lowest (x / 2) r =
    record { member = sym (has-suc x r) ∙ w.member; below = λ i l. sym (has-suc x i) ∙ w.below (suc i) (omega arith) } in
    ap₂ ◌&&◌ (has-suc x j) (has-suc (x - 1) j ∙ ap (λ (n : ℕ). has n j) half)
    ∙ low-gone r (x / 2) (omega arith) rest j
    ∙ ap₂ (λ (a b : Bool). a && not b) (sym (has-suc x j)) (sym (eqb-suc-suc j r))

pub lowest-gone : (x i : ℕ) → 0 < x → x < 2 ^ 64 → Lowest x i → bit_and x (x - 1) ≡ remove x i
unfolding intersection remove
lowest-gone x i p h w = intersection-is x (x - 1) h (omega arith) ∙ set_of-same 64 _ _ (λ j l. low-gone i x p w j)
