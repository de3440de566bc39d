-- Hours that a role does not name make no difference to it.
-- Assumes nothing.
use Prim.Native.Nat.{ℕ, zero, suc, ◌<◌}
use mathlib.Core.Path.{◌≡◌, refl, sym, ◌∙◌, ap, ap₂}
use mathlib.Core.Bool.{Bool, true, false, not, ◌&&◌, ◌||◌, and-true, or-true}
use mathlib.Core.List.{List}
use native.Mathlib.Omega.{arith}
use lib.Dec.{eqb}
use lib.ListN.{get_or}
use borrow.Author.Tests.{eqb-true}
use Rattle.ground.specs.Believed.Choice.{pick}
use Rattle.bitset.specs.Believed.Sets.{has, insert, union, intersection}
use Rattle.bitset.proofs.SetLaws.{has-insert, has-union, has-intersection, insert-self, union-nothing}
use Rattle.rewrite_unions.specs.Union.{union_of, in_use, used_in}
use Rattle.rewrite_unions.proofs.UnionLaws.{union-lt, used-at}
use Rattle.rewrite_sets.specs.declared.Role.{Role}
use Rattle.rewrite_sets.specs.Role.{sets_made, sets_in, kept_with, kept_by}

-- two masks that agree on the slots in use take the same
unions-agree : (sets : List ℕ) (m m' k : ℕ) → ((j : ℕ) → j < k → in_use sets j ≡ true → has m' j ≡ has m j) → union_of sets m' k ≡ union_of sets m k
unfolding union_of
unions-agree sets m m' zero h = refl
unions-agree sets m m' (suc k) h =
    let e = unions-agree sets m m' k (λ j l. h j (omega arith)) in
    ap (λ (x : ℕ). pick (has m' k) (union x (get_or sets k 0)) x) e ∙ go (eqb (get_or sets k 0) 0) refl (h k (omega arith))
  where
    flat : (b : Bool) → get_or sets k 0 ≡ 0 → pick b (union (union_of sets m k) (get_or sets k 0)) (union_of sets m k) ≡ union_of sets m k
    flat true z = ap (union (union_of sets m k)) z ∙ sym (union-nothing (union_of sets m k) (union-lt m sets k))
    flat false z = refl

    go : (t : Bool) → eqb (get_or sets k 0) 0 ≡ t → (not t ≡ true → has m' k ≡ has m k)
        → pick (has m' k) (union (union_of sets m k) (get_or sets k 0)) (union_of sets m k) ≡ pick (has m k) (union (union_of sets m k) (get_or sets k 0)) (union_of sets m k)
    go true z f = let y = eqb-true (get_or sets k 0) 0 z in flat (has m' k) y ∙ sym (flat (has m k) y)
    go false z f = ap (λ (b : Bool). pick b (union (union_of sets m k) (get_or sets k 0)) (union_of sets m k)) (f refl)

module _ (ρ : Role) (named : ℕ) (en : named ≡ insert (union (used_in ρ.users) (used_in ρ.permissions)) ρ.on) (small : ρ.on < 33) where
  member : (j : ℕ) → j < 33 → (has (used_in ρ.users) j || has (used_in ρ.permissions) j) ≡ true → has named j ≡ true
  member j l e =
      ap (λ (x : ℕ). has x j) en ∙ has-insert (union (used_in ρ.users) (used_in ρ.permissions)) ρ.on j (omega arith)
      ∙ ap (λ (b : Bool). b || eqb j ρ.on) (has-union (used_in ρ.users) (used_in ρ.permissions) j (omega arith) ∙ e)

  cut : (m j : ℕ) → j < 33 → has named j ≡ true → has (intersection m named) j ≡ has m j
  cut m j l e = has-intersection m named j (omega arith) ∙ ap (λ (b : Bool). has m j && b) e ∙ and-true (has m j)

  -- a mask cut to the hours that the role names
  pub named-same : (m : ℕ) → kept_by ρ (intersection m named) ≡ kept_by ρ m
  unfolding kept_by sets_in
  named-same m =
      ap (kept_with ρ.source)
      (ap₂ (λ (b : Bool) (x : ℕ). pick b (sets_made x (union_of ρ.permissions (intersection m named) 33)) (sets_made 0 0))
      (cut m ρ.on small (ap (λ (x : ℕ). has x ρ.on) en ∙ insert-self (union (used_in ρ.users) (used_in ρ.permissions)) ρ.on (omega arith)))
      (unions-agree ρ.users m (intersection m named) 33 (λ j l e. cut m j l (member j l (ap (λ (b : Bool). b || has (used_in ρ.permissions) j) (used-at ρ.users j l ∙ e)))))
      ∙ ap (λ (x : ℕ). pick (has m ρ.on) (sets_made (union_of ρ.users m 33) x) (sets_made 0 0))
      (unions-agree ρ.permissions m (intersection m named) 33
      (λ j l e. cut m j l (member j l (ap (λ (b : Bool). has (used_in ρ.users) j || b) (used-at ρ.permissions j l ∙ e) ∙ or-true (has (used_in ρ.users) j))))))
