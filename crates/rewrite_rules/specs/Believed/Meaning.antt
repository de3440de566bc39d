-- What a table says of a rota's role at a minute (demand 3; document 01, "Rewriting", its second paragraph).
use Rattle.std.specs.Prelude.{ℕ, ◌<◌, ◌≡◌, ◌↔◌, true, length}
use Rattle.rota.specs.Believed.Rota.{Rota, enabled, has_user, has_permission}
use Rattle.table.specs.Believed.Table.{Table, entry_at}
use Rattle.table.specs.Believed.Table as table
use Rattle.rewrite_rules.specs.Believed.Rewriting.{users_at, permissions_at}

-- role r is enabled at t and has a user and a permission
abbrev pub Acting : Rota → ℕ → ℕ → Type 0
Acting ρ r t =
    (enabled ρ r t ≡ true) × ((u : ℕ) × (u < ρ.users) × (has_user ρ u r t ≡ true)) × ((p : ℕ) × (p < ρ.permissions) × (has_permission ρ p r t ≡ true))

-- derived role i of the table is one of r, and is enabled at t
pub record EnabledFor (τ : Table) (r t i : ℕ) : Type 0 where
  pub below : i < length τ.entries
  pub source : (entry_at τ i).source ≡ r
  pub on : table.enabled τ i t ≡ true

-- what the table says of role r at t
pub record MeansAt (ρ : Rota) (τ : Table) (r t : ℕ) : Type 0 where
  -- at most one derived role of r is enabled
  pub at_most_one : (i j : ℕ) → EnabledFor τ r t i → EnabledFor τ r t j → i ≡ j
  -- one is enabled exactly when r is enabled and has a user and a permission
  pub exactly : ((i : ℕ) × EnabledFor τ r t i) ↔ Acting ρ r t
  -- its two sets are the users and the permissions that r has
  pub users : (i : ℕ) → EnabledFor τ r t i → (entry_at τ i).users ≡ users_at ρ r t
  pub permissions : (i : ℕ) → EnabledFor τ r t i → (entry_at τ i).permissions ≡ permissions_at ρ r t
