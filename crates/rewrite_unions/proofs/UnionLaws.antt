-- The union over a mask: its members, and the slots of the mask that are in use, of which alone it is made.
-- Assumes nothing.
use Prim.Native.Nat.{ℕ, zero, suc, ◌+◌, ◌^◌, ◌≤◌, ◌<◌}
use mathlib.Core.Path.{◌≡◌, refl, sym, ◌∙◌, ap, ap₂}
use mathlib.Core.Bool.{Bool, true, false, not, ◌&&◌, ◌||◌, or-false}
use mathlib.Core.List.{List}
use native.Mathlib.Omega.{arith}
use native.Mathlib.Numerals.{add-one}
use lib.Dec.{eqb}
use lib.ListN.{get_or}
use lib.Pow.{pow_pos}
use borrow.Author.Tests.{eq-eqb, ne_eqb, eqb-true}
use Rattle.ground.specs.Believed.Choice.{pick}
use Rattle.ground.specs.Believed.Search.{any_below}
use Rattle.ground.proofs.BoolLaws.{clash, and_left, and_right, and_both}
use Rattle.ground.proofs.SearchLaws.{any_out, any-stop}
use Rattle.bitset.specs.Believed.Sets.{has, set_of, union, intersection}
use Rattle.bitset.proofs.SetLaws.{intersection-of, member-out, some-member, has-none, has-below, has-union, has-intersection, set_of-lt, union-nothing}
use Rattle.rewrite_unions.specs.Union.{in_use, used_in, union_of}

-- ---- one slot more

pub union-none : (sets : List ℕ) (m : ℕ) → 0 ≡ union_of sets m 0
unfolding union_of
union-none sets m = refl

module _ (sets : List ℕ) (m k x : ℕ) (e : x ≡ union_of sets m k) where
  union-step : (b : Bool) → has m k ≡ b → pick b (union x (get_or sets k 0)) x ≡ union_of sets m (k + 1)
  unfolding union_of
  union-step b f =
      ap₂ (λ (c : Bool) (y : ℕ). pick c (union y (get_or sets k 0)) y) (sym f) e ∙ ap (union_of sets m) (sym (add-one k))

  pub union-with : (y : ℕ) → has m k ≡ true → y ≡ union x (get_or sets k 0) → y ≡ union_of sets m (k + 1)
  union-with y f q = q ∙ union-step true f

  pub union-without : (y : ℕ) → has m k ≡ false → y ≡ x → y ≡ union_of sets m (k + 1)
  union-without y f q = q ∙ union-step false f

-- ---- its members

module _ (m : ℕ) where
  pub has-union-of : (sets : List ℕ) (k x : ℕ) → x < 64 → has (union_of sets m k) x ≡ any_below k (λ j. has m j && has (get_or sets j 0) x)
  unfolding union_of any_below
  has-union-of sets zero x l = has-none x
  has-union-of sets (suc k) x l = go (has m k) (has-union-of sets k x l)
    where
      go : (b : Bool) → has (union_of sets m k) x ≡ any_below k (λ j. has m j && has (get_or sets j 0) x)
          → has (pick b (union (union_of sets m k) (get_or sets k 0)) (union_of sets m k)) x ≡ (any_below k (λ j. has m j && has (get_or sets j 0) x) || (b && has (get_or sets k 0) x))
      go true h = has-union (union_of sets m k) (get_or sets k 0) x l ∙ ap (λ (b : Bool). b || has (get_or sets k 0) x) h
      go false h = h ∙ sym (or-false (any_below k (λ j. has m j && has (get_or sets j 0) x)))

  pub union-lt : (sets : List ℕ) (k : ℕ) → union_of sets m k < 2 ^ 64
  unfolding union_of union
  union-lt sets zero = pow_pos 64
  union-lt sets (suc k) = go (has m k) (union-lt sets k)
    where
      go : (b : Bool) → union_of sets m k < 2 ^ 64 → pick b (union (union_of sets m k) (get_or sets k 0)) (union_of sets m k) < 2 ^ 64
      go true h = set_of-lt 64 (λ j. has (union_of sets m k) j || has (get_or sets k 0) j)
      go false h = h

-- ---- the slots in use

pub in-use : (sets : List ℕ) (k : ℕ) → (get_or sets k 0 ≡ 0 → ⊥) → in_use sets k ≡ true
in-use sets k h = ap not (ne_eqb (get_or sets k 0) 0 h)

pub not-in-use : (sets : List ℕ) (k : ℕ) → get_or sets k 0 ≡ 0 → in_use sets k ≡ false
not-in-use sets k h = ap not (eq-eqb (get_or sets k 0) 0 h)

pub used_all : (sets : List ℕ) (x k : ℕ) → x ≡ set_of k (in_use sets) → k ≡ 33 → x ≡ used_in sets
unfolding used_in
used_all sets x k e h = e ∙ ap (λ (n : ℕ). set_of n (in_use sets)) h

pub used-at : (sets : List ℕ) (k : ℕ) → k < 33 → has (used_in sets) k ≡ in_use sets k
unfolding used_in
used-at sets k h = has-below 33 (in_use sets) k h

-- ---- no slot of the mask in use

module _ (sets : List ℕ) (m s : ℕ) (es : s ≡ intersection m (used_in sets)) (z : s ≡ 0) where
  unused : (i : ℕ) → i < 33 → (has m i && in_use sets i) ≡ false
  unused i h =
      ap (λ (b : Bool). has m i && b) (sym (used-at sets i h)) ∙ sym (has-intersection m (used_in sets) i (omega arith))
      ∙ ap (λ (x : ℕ). has x i) (sym es ∙ z) ∙ has-none i

  -- a slot that is not in the mask or not in use adds nothing
  pass : (i : ℕ) → i < 33 → union_of sets m i ≡ union_of sets m (i + 1)
  pass i h = go (has m i) (eqb (get_or sets i 0) 0) refl refl (unused i h)
    where
      go : (b t : Bool) → has m i ≡ b → eqb (get_or sets i 0) 0 ≡ t → (has m i && in_use sets i) ≡ false → union_of sets m i ≡ union_of sets m (i + 1)
      go false t f g w = union-without sets m i (union_of sets m i) refl (union_of sets m i) f refl
      go true true f g w =
          union-with sets m i (union_of sets m i) refl (union_of sets m i) f
          (union-nothing (union_of sets m i) (union-lt m sets i) ∙ ap (union (union_of sets m i)) (sym (eqb-true (get_or sets i 0) 0 g)))
      go true false f g w = clash true refl (rw (f, g) at w)

  none-to : (n : ℕ) → n ≤ 33 → 0 ≡ union_of sets m n
  none-to zero h = union-none sets m
  none-to (suc n) h = none-to n (omega arith) ∙ pass n (omega arith) ∙ ap (union_of sets m) (add-one n)

  pub union-empty : 0 ≡ union_of sets m 33
  union-empty = none-to 33 (omega arith)

-- ---- a slot of the mask in use

has-one-of : (sets : List ℕ) (m k x : ℕ) → k < 33 → x < 64 → has m k ≡ true → has (get_or sets k 0) x ≡ true → has (union_of sets m 33) x ≡ true
has-one-of sets m k x l h p q =
    has-union-of m sets 33 x h ∙ any-stop (λ j. has m j && has (get_or sets j 0) x) 33 k l (and_both (has m k) (has (get_or sets k 0) x) p q)

union-member : (sets : List ℕ) (m k : ℕ) → k < 33 → has m k ≡ true → in_use sets k ≡ true → get_or sets k 0 < 2 ^ 64 → union_of sets m 33 ≡ 0 → ⊥
union-member sets m k l p q fits z =
    let there : get_or sets k 0 ≡ 0 → ⊥ = λ e. clash (in_use sets k) q (not-in-use sets k e) in
    let x = any_out 64 (has (get_or sets k 0)) (some-member 64 (get_or sets k 0) (omega arith) fits) in
    clash (has 0 x.0) (ap (λ (y : ℕ). has y x.0) (sym z) ∙ has-one-of sets m k x.0 l x.1 p x.2) (has-none x.0)

union-some : (sets : List ℕ) (m : ℕ) → ((k : ℕ) → get_or sets k 0 < 2 ^ 64) → not (eqb (set_of 33 (λ i. has m i && in_use sets i)) 0) ≡ true → union_of sets m 33 ≡ 0 → ⊥
union-some sets m fits some =
    let k = member-out 33 (λ i. has m i && in_use sets i) some in
    union-member sets m k.0 k.1 (and_left (has m k.0) (in_use sets k.0) k.2) (and_right (has m k.0) (in_use sets k.0) k.2) (fits k.0)

-- whether the union has a member is whether a slot of the mask is in use
pub union-meets : (sets : List ℕ) (m s : ℕ) → ((k : ℕ) → get_or sets k 0 < 2 ^ 64) → s ≡ intersection m (used_in sets) → eqb s 0 ≡ eqb (union_of sets m 33) 0
union-meets sets m s fits es = go (eqb s 0) refl
  where
    e : s ≡ set_of 33 (λ i. has m i && in_use sets i)
    e = unfold used_in in es ∙ intersection-of 33 m (in_use sets) (omega arith)

    go : (b : Bool) → eqb s 0 ≡ b → b ≡ eqb (union_of sets m 33) 0
    go true q = sym (eq-eqb (union_of sets m 33) 0 (sym (union-empty sets m s es (eqb-true s 0 q))))
    go false q = sym (ne_eqb (union_of sets m 33) 0 (union-some sets m fits (ap (λ (x : ℕ). not (eqb x 0)) (sym e) ∙ ap not q)))
