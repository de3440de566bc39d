-- What a role has in a field with mask m, and whether it keeps the field.
-- Assumes nothing.
use Rattle.std.proofs.Common.{◌≡◌, ℕ, refl, sym, ◌∙◌, ap₂, Bool, true, false, not, ◌&&◌, None, Some, eqb}
use Rattle.ground.specs.Believed.Choice.{pick}
use Rattle.bitset.specs.Believed.Sets.{has}
use Rattle.rewrite_unions.specs.Union.{union_of}
use Rattle.rewrite_sets.specs.declared.Role.{Role}
use Rattle.rewrite_sets.specs.Role.{sets_made, sets_in, entry_of, kept_with, kept_by, Gathered}
use Rattle.rewrite_sets.proofs.UnionLaws.{union-within}

module _ (ρ : Role) (m : ℕ) where
  -- it is enabled, and has these
  pub has-both : (u p : ℕ) → not (eqb (union_of ρ.users m 33) 0) ≡ true → not (eqb (union_of ρ.permissions m 33) 0) ≡ true → has m ρ.on ≡ true
      → u ≡ union_of ρ.users m 33 → p ≡ union_of ρ.permissions m 33 → Gathered ρ m (Some (sets_made u p))
  unfolding kept_by sets_in
  has-both u p eu ep h qu qp =
      record {
        kept = ap₂ (λ (v w : ℕ). Some (entry_of ρ.source (sets_made v w))) qu qp ∙ rw (h, eu, ep) refl;
        within = (rw qu (union-within ρ.users m), rw qp (union-within ρ.permissions m));
      }

  pub not-enabled : has m ρ.on ≡ false → Gathered ρ m None
  unfolding kept_by sets_in
  not-enabled e = record { kept = rw e refl; within = tt }

  pub no-users : not (eqb (union_of ρ.users m 33) 0) ≡ false → Gathered ρ m None
  unfolding kept_by sets_in
  no-users e = record { kept = sym (go (has m ρ.on)); within = tt }
    where
      go : (b : Bool) → kept_with ρ.source (pick b (sets_made (union_of ρ.users m 33) (union_of ρ.permissions m 33)) (sets_made 0 0)) ≡ None
      go true = rw e refl
      go false = refl

  pub no-permissions : not (eqb (union_of ρ.permissions m 33) 0) ≡ false → Gathered ρ m None
  unfolding kept_by sets_in
  no-permissions e = record { kept = sym (go (has m ρ.on)); within = tt }
    where
      none : (b : Bool) → pick (b && false) (Some (entry_of ρ.source (sets_made (union_of ρ.users m 33) (union_of ρ.permissions m 33)))) None ≡ None
      none true = refl
      none false = refl

      go : (b : Bool) → kept_with ρ.source (pick b (sets_made (union_of ρ.users m 33) (union_of ρ.permissions m 33)) (sets_made 0 0)) ≡ None
      go true = rw e (none (not (eqb (union_of ρ.users m 33) 0)))
      go false = refl
