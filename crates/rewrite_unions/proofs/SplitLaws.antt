-- A union over a mask, in two parts.
--     has-low                       the low bits of a number
--     union_assoc, union_comm       and union-zero: the empty set first
--     union-same, union-low         sets and masks that agree below the bound
--     union-split, union-group      the sets from k on apart; four of them by four bits of the mask
--     union-rest                    where they have no members
-- Assumes nothing.
use Prim.Native.Nat.{ℕ, zero, suc, ◌+◌, ◌-◌, ◌/◌, ◌%◌, ◌^◌, ◌≤◌, ◌<◌}
use mathlib.Core.Path.{◌≡◌, refl, sym, ◌∙◌, ap, ap₂}
use mathlib.Core.Bool.{Bool, true, false, ◌||◌, or_assoc, or_comm}
use mathlib.Core.List.{List}
use native.Mathlib.Nat.{add-zero, add-suc}
use native.Mathlib.Omega.{arith}
use lib.Dec.{eqb}
use lib.ListN.{get_or, drop}
use lib.Pow.{field, mod-mod-pow}
use lib.Seq.{get_or-drop}
use Rattle.ground.specs.Believed.Choice.{pick}
use Rattle.bitset.specs.Believed.Sets.{has, union}
use Rattle.bitset.proofs.SetLaws.{has-shifted, has-union, set_of-same, union-nothing}
use Rattle.rewrite_unions.specs.Union.{union_of}
use Rattle.rewrite_unions.proofs.UnionLaws.{union-lt, union-with, union-without}

-- ---- bits

pub has-low : (x k i : ℕ) → i < k → has (x % 2 ^ k) i ≡ has x i
unfolding has
has-low x k i l =
    let e : k ≡ ((k - i - 1) + 1) + i = omega arith in
    ap (λ (n : ℕ). eqb (x % 2 ^ n / 2 ^ i % 2) 1) e
    ∙ ap (λ (y : ℕ). eqb (y % 2) 1) (field x ((k - i - 1) + 1) i)
    ∙ ap (λ (y : ℕ). eqb y 1) (mod-mod-pow (x / 2 ^ i) (k - i - 1) 1)

-- ---- unions

pub union_comm : (x y : ℕ) → union x y ≡ union y x
unfolding union
union_comm x y = set_of-same 64 _ _ (λ j l. or_comm (has x j) (has y j))

pub union_assoc : (x y z : ℕ) → union (union x y) z ≡ union x (union y z)
union_assoc x y z = go
  where
    go : union (union x y) z ≡ union x (union y z)
    go = unfold union in
        set_of-same 64 _ _
        (λ j l. ap (λ (b : Bool). b || has z j) (has-union x y j l) ∙ or_assoc (has x j) (has y j) (has z j) ∙ ap (λ (b : Bool). has x j || b) (sym (has-union y z j l)))

pub union-zero : (x : ℕ) → x < 2 ^ 64 → union 0 x ≡ x
union-zero x h = union_comm 0 x ∙ sym (union-nothing x h)

-- ---- what agrees below the bound

pub union-same : (l r : List ℕ) (m n k : ℕ) → ((j : ℕ) → j < k → get_or l j 0 ≡ get_or r j 0) → ((j : ℕ) → j < k → has m j ≡ has n j)
    → union_of l m k ≡ union_of r n k
unfolding union_of
union-same l r m n zero f g = refl
union-same l r m n (suc k) f g =
    let e = union-same l r m n k (λ j h. f j (omega arith)) (λ j h. g j (omega arith)) in
    ap₂ (λ (b : Bool) (x : ℕ). pick b (union x (get_or l k 0)) x) (g k (omega arith)) e
    ∙ ap (λ (x : ℕ). pick (has n k) (union (union_of r n k) x) (union_of r n k)) (f k (omega arith))

pub union-low : (l : List ℕ) (m k : ℕ) → union_of l (m % 2 ^ k) k ≡ union_of l m k
union-low l m k = union-same l l (m % 2 ^ k) m k (λ j h. refl) (λ j h. has-low m k j h)

-- ---- the sets from k on

pub union-split : (sets : List ℕ) (m k n : ℕ) → union_of sets m (k + n) ≡ union (union_of sets m k) (union_of (drop k sets) (m / 2 ^ k) n)
unfolding union_of
union-split sets m k zero = ap (union_of sets m) (add-zero k) ∙ union-nothing (union_of sets m k) (union-lt m sets k)
union-split sets m k (suc n) =
    ap (union_of sets m) (add-suc k n)
    ∙ ap (λ (x : ℕ). pick (has m (k + n)) (union x (get_or sets (k + n) 0)) x) (union-split sets m k n)
    ∙ ap₂ (λ (b : Bool) (y : ℕ). pick b (union (union (union_of sets m k) (union_of (drop k sets) (m / 2 ^ k) n)) y) (union (union_of sets m k) (union_of (drop k sets) (m / 2 ^ k) n)))
    (sym (has-shifted m k n)) (sym (get_or-drop k sets n 0))
    ∙ go (has (m / 2 ^ k) n) (union_of sets m k) (union_of (drop k sets) (m / 2 ^ k) n) (get_or (drop k sets) n 0)
  where
    go : (b : Bool) (x y z : ℕ) → pick b (union (union x y) z) (union x y) ≡ union x (pick b (union y z) y)
    go true x y z = union_assoc x y z
    go false x y z = refl

pub union-group : (sets : List ℕ) (m k : ℕ) → union_of sets m (k + 4) ≡ union (union_of sets m k) (union_of (drop k sets) (m / 2 ^ k % 16) 4)
union-group sets m k = union-split sets m k 4 ∙ ap (union (union_of sets m k)) (sym (union-low (drop k sets) (m / 2 ^ k) 4))

-- ---- no members from k on

pub union-rest : (sets : List ℕ) (m k n : ℕ) → ((j : ℕ) → k ≤ j → j < k + n → get_or sets j 0 ≡ 0) → union_of sets m k ≡ union_of sets m (k + n)
union-rest sets m k zero f = let e : k ≡ k + 0 = omega arith in ap (union_of sets m) e
union-rest sets m k (suc n) f =
    let e : (k + n) + 1 ≡ k + suc n = omega arith in
    union-rest sets m k n (λ j a b. f j a (omega arith)) ∙ go (has m (k + n)) refl ∙ ap (union_of sets m) e
  where
    go : (b : Bool) → has m (k + n) ≡ b → union_of sets m (k + n) ≡ union_of sets m ((k + n) + 1)
    go true h =
        union-with sets m (k + n) (union_of sets m (k + n)) refl (union_of sets m (k + n)) h
        (union-nothing (union_of sets m (k + n)) (union-lt m sets (k + n)) ∙ ap (union (union_of sets m (k + n))) (sym (f (k + n) (omega arith) (omega arith))))
    go false h = union-without sets m (k + n) (union_of sets m (k + n)) refl (union_of sets m (k + n)) h refl
