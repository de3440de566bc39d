-- Two rotas that differ in their format and in the order and the repeats of their rows alone (document 02, item 7: two coordinators send the same rota).
use Rattle.std.specs.Prelude.{◌≡◌, ◌↔◌}
use mathlib.Core.List.{Memᴰ}
use Rattle.rota.specs.Believed.Rota.{Row, Rota}

-- equal counts of the header but for the rows, equal hours and role bytes, and the same set of rows of each kind
pub record Same (ρ σ : Rota) : Type 0 where
  pub cycle : ρ.cycle ≡ σ.cycle
  pub users : ρ.users ≡ σ.users
  pub permissions : ρ.permissions ≡ σ.permissions
  pub hours : ρ.hours ≡ σ.hours
  pub roles : ρ.roles ≡ σ.roles
  pub user-rows : (w : Row) → Memᴰ w ρ.user-rows ↔ Memᴰ w σ.user-rows
  pub permission-rows : (w : Row) → Memᴰ w ρ.permission-rows ↔ Memᴰ w σ.permission-rows
