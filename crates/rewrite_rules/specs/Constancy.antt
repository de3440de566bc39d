-- What does not change within a field (document 01, "Rewriting").
use Rattle.std.specs.Prelude.{ℕ, ◌≡◌}
use Rattle.hours.specs.declared.HoursRef.{HoursRef}
use Rattle.rota.specs.Believed.Rota.{Rota, ref_on, enabled, has_user, has_permission}
use Rattle.rewrite_rules.specs.Believed.Rewriting.{users_at, permissions_at, active}

-- two minutes at which all hours judge alike, and so all that a role has
pub record SameAt (ρ : Rota) (s t : ℕ) : Type 0 where
  pub hours-same : (h : HoursRef) → ref_on ρ h s ≡ ref_on ρ h t
  pub enabled-same : (r : ℕ) → enabled ρ r s ≡ enabled ρ r t
  pub user-same : (u r : ℕ) → has_user ρ u r s ≡ has_user ρ u r t
  pub permission-same : (p r : ℕ) → has_permission ρ p r s ≡ has_permission ρ p r t
  pub users-same : (r : ℕ) → users_at ρ r s ≡ users_at ρ r t
  pub permissions-same : (r : ℕ) → permissions_at ρ r s ≡ permissions_at ρ r t
  pub active-same : (r : ℕ) → active ρ r s ≡ active ρ r t
