-- What a yes through a role says, as facts.
use Rattle.std.specs.Prelude.{ℕ, ◌<◌, ◌≡◌, true, length}
use Rattle.rota.specs.Believed.Rota.{Rota, enabled, has_user, has_permission}

-- role r is enabled at t, has user u and has permission p
pub record Through (ρ : Rota) (u p t r : ℕ) : Type 0 where
  pub below : r < length ρ.roles
  pub on : enabled ρ r t ≡ true
  pub user : has_user ρ u r t ≡ true
  pub permission : has_permission ρ p r t ≡ true
