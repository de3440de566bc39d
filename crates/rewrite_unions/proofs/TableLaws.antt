-- A table of unions: its groups one by one, and what is looked up in it.
--     two-filled                   four stores are a run of stores
--     four-filled                  four runs of stores are the choices among four sets
--     filled_more                  one group more
--     tabled-some                  no slot is in use after the groups
--     ready-none                   sets without members
--     tabled-turn, tabled-all      one group more of a union; the groups, and then slot 32
-- Assumes nothing.
use Prim.Native.Nat.{ℕ, zero, suc, ◌+◌, ◌-◌, ◌*◌, ◌/◌, ◌%◌, ◌^◌, ◌≤◌, ◌<◌}
use mathlib.Core.Path.{◌≡◌, refl, sym, ◌∙◌, ap, ap₂}
use mathlib.Core.Bool.{Bool, true, false, not}
use mathlib.Core.Logic.{⊎_elim}
use mathlib.Core.List.{List, [], ◌∷◌, ◌++◌}
use native.Mathlib.Nat.{not-suc-le-zero}
use native.Mathlib.Omega.{arith}
use lib.Dec.{eqb}
use lib.ListN.{replicate, length, get_or, drop, set, length-set}
use lib.Seq.{sets, get_or-set_same, get_or-set_other, get_or-drop, length-sets}
use lib.Pow.{pow_pos}
use borrow.Author.Tests.{eqb-true}
use Rattle.ground.specs.Believed.Sequence.{list_of}
use Rattle.ground.proofs.BoolLaws.{lt-or-le}
use Rattle.ground.proofs.SequenceLaws.{get-list_of, list_of-length}
use Rattle.endian.proofs.WrittenLaws.{sets-twice}
use Rattle.bitset.specs.Believed.Sets.{has, union}
use Rattle.bitset.proofs.SetLaws.{has-none, has-shifted, set_of-has}
use Rattle.rewrite_unions.specs.Union.{union_of, in_use, used_in}
use Rattle.rewrite_unions.specs.Tables.{with_two, choices, Tabled, Ready}
use Rattle.rewrite_unions.proofs.UnionLaws.{union-none, union-lt, used-at, not-in-use}
use Rattle.rewrite_unions.proofs.SplitLaws.{has-low, union-zero, union-same, union-low, union-split, union-group, union-rest}

-- ---- the choices among four sets

-- four stores are a run of stores
pub two-filled : (l : List ℕ) (at a b ab x : ℕ) {p q r : ℕ} → p ≡ union a x → q ≡ union b x → r ≡ union ab x
    → set (set (set (set l at x) (at + 1) p) (at + 2) q) (at + 3) r ≡ sets l at (with_two a b ab x)
two-filled l at a b ab x ep eq er =
    let e : at + 1 ≡ suc at = omega arith in
    let f : at + 2 ≡ suc (suc at) = omega arith in
    let g : at + 3 ≡ suc (suc (suc at)) = omega arith in
    rw (ep, eq, er, e, f, g)

module _ (a b : ℕ) (more : List ℕ) where
  of_none : 0 ≡ union_of (a ∷ b ∷ more) 0 2
  unfolding union_of has
  of_none = refl

  of-first : a < 2 ^ 64 → a ≡ union_of (a ∷ b ∷ more) 1 2
  unfolding union_of has
  of-first h = sym (union-zero a h)

  of-second : b < 2 ^ 64 → b ≡ union_of (a ∷ b ∷ more) 2 2
  unfolding union_of has
  of-second h = sym (union-zero b h)

  of-both : a < 2 ^ 64 → union a b ≡ union_of (a ∷ b ∷ more) 3 2
  unfolding union_of has
  of-both h = ap (λ (x : ℕ). union x b) (sym (union-zero a h))

module _ (a b c d : ℕ) (fa : a < 2 ^ 64) (fb : b < 2 ^ 64) where
  abbrev four : List ℕ
  four = a ∷ b ∷ c ∷ d ∷ []

  -- a choice among the first two, and one among the others
  halves : (w u : ℕ) → u < 4 → union_of four (4 * w + u) 4 ≡ union (union_of four u 2) (union_of (c ∷ d ∷ []) w 2)
  halves w u h =
      let low : (4 * w + u) % 4 ≡ u = omega arith in
      let high : (4 * w + u) / 4 ≡ w = omega arith in
      union-split four (4 * w + u) 2 2
      ∙ ap₂ union (sym (union-low four (4 * w + u) 2) ∙ ap (λ (v : ℕ). union_of four v 2) low) (ap (λ (v : ℕ). union_of (c ∷ d ∷ []) v 2) high)

  module _ (w x : ℕ) (e : x ≡ union_of (c ∷ d ∷ []) w 2) where
    at : (u y z : ℕ) → u < 4 → y ≡ union z x → z ≡ union_of four u 2 → y ≡ union_of four (4 * w + u) 4
    at u y z h ey ez = ey ∙ ap₂ union ez e ∙ sym (halves w u h)

    row : with_two a b (union a b) x ≡ union_of four (4 * w + 0) 4 ∷ union_of four (4 * w + 1) 4 ∷ union_of four (4 * w + 2) 4 ∷ union_of four (4 * w + 3) 4 ∷ []
    row =
        ap₂ ◌∷◌ (at 0 x 0 (omega arith) (sym (union-zero x (rw e (union-lt w (c ∷ d ∷ []) 2)))) (of_none a b (c ∷ d ∷ [])))
        (ap₂ ◌∷◌ (at 1 (union a x) a (omega arith) refl (of-first a b (c ∷ d ∷ []) fa))
        (ap₂ ◌∷◌ (at 2 (union b x) b (omega arith) refl (of-second a b (c ∷ d ∷ []) fb))
        (ap₂ ◌∷◌ (at 3 (union (union a b) x) (union a b) (omega arith) refl (of-both a b (c ∷ d ∷ []) fa)) refl)))

module _ (a b c d : ℕ) (fa : a < 2 ^ 64) (fb : b < 2 ^ 64) (fc : c < 2 ^ 64) (fd : d < 2 ^ 64) where
  rows-choices : (with_two a b (union a b) 0 ++ with_two a b (union a b) c) ++ (with_two a b (union a b) d ++ with_two a b (union a b) (union c d)) ≡ choices (a ∷ b ∷ c ∷ d ∷ [])
  unfolding choices list_of
  rows-choices =
      ap₂ ◌++◌ (ap₂ ◌++◌ (row a b c d fa fb 0 0 (of_none c d [])) (row a b c d fa fb 1 c (of-first c d [] fc)))
      (ap₂ ◌++◌ (row a b c d fa fb 2 d (of-second c d [] fd)) (row a b c d fa fb 3 (union c d) (of-both c d [] fc)))

  pub four-filled : (l : List ℕ) (at ab cd : ℕ) {m n p q : List ℕ} → ab ≡ union a b → cd ≡ union c d
      → m ≡ sets l at (with_two a b ab 0) → n ≡ sets m (at + 4) (with_two a b ab c) → p ≡ sets n (at + 8) (with_two a b ab d) → q ≡ sets p (at + 12) (with_two a b ab cd)
      → q ≡ sets l at (choices (a ∷ b ∷ c ∷ d ∷ []))
  four-filled l at ab cd {m} {n} {p} {q} e f em en ep eq =
      sets-twice l at (with_two a b ab 0 ++ with_two a b ab c ++ with_two a b ab d) (with_two a b ab cd)
      (sets-twice l at (with_two a b ab 0 ++ with_two a b ab c) (with_two a b ab d) (sets-twice l at (with_two a b ab 0) (with_two a b ab c) em en) ep) eq
      ∙ ap₂ (λ (x y : ℕ). sets l at ((with_two a b x 0 ++ with_two a b x c) ++ (with_two a b x d ++ with_two a b x y))) e f
      ∙ ap (sets l at) rows-choices

-- ---- runs of stores

stored-before : (vs l : List ℕ) (i k : ℕ) → k < i → get_or (sets l i vs) k 0 ≡ get_or l k 0
stored-before [] l i k h = refl
stored-before (v ∷ vs) l i k h = stored-before vs (set l i v) (suc i) k (omega arith) ∙ get_or-set_other l i k v 0 (λ e. omega arith)

stored-in : (vs l : List ℕ) (i j : ℕ) → i + length vs ≤ length l → j < length vs → get_or (sets l i vs) (i + j) 0 ≡ get_or vs j 0
stored-in [] l i j h k = absurd (not-suc-le-zero k)
stored-in (v ∷ vs) l i zero h k =
    let e : i + 0 ≡ i = omega arith in
    ap (λ (n : ℕ). get_or (sets (set l i v) (suc i) vs) n 0) e ∙ stored-before vs (set l i v) (suc i) i (omega arith) ∙ get_or-set_same l i v 0 (omega arith)
stored-in (v ∷ vs) l i (suc j) h k =
    let e : i + suc j ≡ suc i + j = omega arith in
    ap (λ (n : ℕ). get_or (sets (set l i v) (suc i) vs) n 0) e ∙ stored-in vs (set l i v) (suc i) j (omega (arith, length-set l i v)) (omega arith)

stored-size : (l m : List ℕ) (i : ℕ) (vs : List ℕ) → m ≡ sets l i vs → length l ≡ 128 → length m ≡ 128
stored-size l m i vs e h = ap length e ∙ length-sets l i vs ∙ h

-- ---- group by group

abbrev pub Filled : List ℕ → List ℕ → ℕ → Type 0
Filled slots table g = (q v : ℕ) → q < g → v < 16 → get_or table (16 * q + v) 0 ≡ union_of (drop (4 * q) slots) v 4

-- four sets one after the other
abbrev four_from : List ℕ → ℕ → List ℕ
four_from slots k = get_or slots k 0 ∷ get_or slots (k + 1) 0 ∷ get_or slots (k + 2) 0 ∷ get_or slots (k + 3) 0 ∷ []

from-slot : (slots : List ℕ) (k v : ℕ) → union_of (four_from slots k) v 4 ≡ union_of (drop k slots) v 4
from-slot slots k v = union-same _ (drop k slots) v v 4 same (λ j h. refl)
  where
    same : (j : ℕ) → j < 4 → get_or (four_from slots k) j 0 ≡ get_or (drop k slots) j 0
    same zero h = let e : k ≡ k + 0 = omega arith in ap (λ (n : ℕ). get_or slots n 0) e ∙ sym (get_or-drop k slots 0 0)
    same (suc zero) h = sym (get_or-drop k slots 1 0)
    same (suc (suc zero)) h = sym (get_or-drop k slots 2 0)
    same (suc (suc (suc zero))) h = sym (get_or-drop k slots 3 0)
    same (suc (suc (suc (suc j)))) h = absurd (omega arith)

module _ (slots table table' : List ℕ) (g : ℕ) (f : Filled slots table g) (size : length table ≡ 128) (few : g < 8) where
  one_more : table' ≡ sets table (16 * g) (choices (four_from slots (4 * g))) → Filled slots table' (g + 1)
  unfolding choices
  one_more e q v l h = rw e (⊎_elim before here (lt-or-le q g))
    where
      before : q < g → get_or (sets table (16 * g) (list_of 16 (λ v. union_of (four_from slots (4 * g)) v 4))) (16 * q + v) 0 ≡ union_of (drop (4 * q) slots) v 4
      before m = stored-before (list_of 16 (λ v. union_of (four_from slots (4 * g)) v 4)) table (16 * g) (16 * q + v) (omega arith) ∙ f q v m h

      here : g ≤ q → get_or (sets table (16 * g) (list_of 16 (λ v. union_of (four_from slots (4 * g)) v 4))) (16 * q + v) 0 ≡ union_of (drop (4 * q) slots) v 4
      here m =
          let e : q ≡ g = omega arith in
          let n = list_of-length 16 (λ v. union_of (four_from slots (4 * g)) v 4) in
          rw e
          (stored-in (list_of 16 (λ v. union_of (four_from slots (4 * g)) v 4)) table (16 * g) v (omega arith) (omega arith)
          ∙ get-list_of 16 (λ v. union_of (four_from slots (4 * g)) v 4) 0 v h ∙ from-slot slots (4 * g) v)

  pub filled_more : table' ≡ sets table (16 * g) (choices (four_from slots (4 * g))) → (length table' ≡ 128) × Filled slots table' (g + 1)
  filled_more e = (stored-size table table' (16 * g) (choices (four_from slots (4 * g))) e size, one_more e)

-- ---- no slot in use after the groups

rest-none : (slots : List ℕ) (used low g : ℕ) → used ≡ used_in slots → low ≡ used % 2 ^ 32 → low / 2 ^ (4 * g) ≡ 0 → (k : ℕ) → 4 * g ≤ k → k < 32 → get_or slots k 0 ≡ 0
rest-none slots used low g e el z k a b = eqb-true (get_or slots k 0) 0 (not-false (eqb (get_or slots k 0) 0) unused)
  where
    not-false : (b : Bool) → not b ≡ false → b ≡ true
    not-false true h = refl
    not-false false h = sym h

    unused : in_use slots k ≡ false
    unused =
        let s : 4 * g + (k - 4 * g) ≡ k = omega arith in
        sym (used-at slots k (omega arith)) ∙ ap (λ (x : ℕ). has x k) (sym e) ∙ sym (has-low used 32 k b) ∙ ap (λ (x : ℕ). has x k) (sym el)
        ∙ ap (has low) (sym s) ∙ sym (has-shifted low (4 * g) (k - 4 * g)) ∙ ap (λ (x : ℕ). has x (k - 4 * g)) z ∙ has-none (k - 4 * g)

module _ (slots table : List ℕ) (g : ℕ) (f : Filled slots table g) where
  pub tabled-some : (used low : ℕ) → g ≤ 8 → used ≡ used_in slots → low ≡ used % 2 ^ 32 → low / 2 ^ (4 * g) ≡ 0 → Tabled slots table g
  tabled-some used low h e el z = record { few = h; each = f; none = rest-none slots used low g e el z }

-- ---- what is looked up

module _ (slots table : List ℕ) (g m : ℕ) (t : Tabled slots table g) where
  pub tabled-turn : (q x y : ℕ) → q < g → x ≡ union_of slots m (4 * q) → y ≡ union x (get_or table (16 * q + m / 2 ^ (4 * q) % 16) 0) → y ≡ union_of slots m (4 * (q + 1))
  tabled-turn q x y l ex ey =
      let n : 4 * q + 4 ≡ 4 * (q + 1) = omega arith in
      let h : m / 2 ^ (4 * q) % 16 < 16 = omega arith in
      ey ∙ ap₂ union ex (t.each q (m / 2 ^ (4 * q) % 16) l h) ∙ sym (union-group slots m (4 * q)) ∙ ap (union_of slots m) n

  pub tabled-all : (q x : ℕ) → q ≡ g → x ≡ union_of slots m (4 * q) → x ≡ union_of slots m 32
  tabled-all q x e ex =
      let n : 4 * g + (32 - 4 * g) ≡ 32 = omega (arith, t.few) in
      ex ∙ ap (λ (k : ℕ). union_of slots m (4 * k)) e ∙ union-rest slots m (4 * g) (32 - 4 * g) (λ j a b. t.none j a (omega arith)) ∙ ap (union_of slots m) n

-- ---- sets without members

zero-at : (n k : ℕ) → get_or (replicate {A = ℕ} n 0) k 0 ≡ 0
zero-at zero k = refl
zero-at (suc n) zero = refl
zero-at (suc n) (suc k) = zero-at n k

-- all that is to be known of sets without members
pub ready-none : (table : List ℕ) → Ready (replicate 33 0) 0 table 0 0
ready-none table =
    record {
      fit = λ k. omega (arith, zero-at 33 k);
      used-are = unfold used_in in set_of-has 33 0 (in_use (replicate 33 0)) (pow_pos 33) (λ i l. has-none i ∙ sym (not-in-use (replicate 33 0) i (zero-at 33 i)));
      tabled = record { few = omega arith; each = λ q v l h. absurd (omega arith); none = λ k a b. zero-at 33 k };
      all_are = union-none (replicate 33 0) (used_in (replicate 33 0)) ∙ union-rest (replicate 33 0) (used_in (replicate 33 0)) 0 33 (λ j a b. zero-at 33 j);
    }
