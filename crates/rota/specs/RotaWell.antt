-- The rotas that keep the layout, said of the rota itself (document 01, "The rota's bytes"; document 02, item 7).
use Rattle.std.specs.Prelude.{ℕ, ◌≤◌, ◌<◌, ◌≡◌, false, ◌⊎◌, List, length}
use Rattle.ground.specs.Believed.Sequence.{All}
use Rattle.hours.specs.Believed.Hours.{dangling}
use Rattle.hours.specs.HoursWell.{HoursWell, pairs_in}
use Rattle.hours.specs.declared.HoursRef.{HoursRef}
use Rattle.rota.specs.Believed.Rota.{Row, Rota}
use Rattle.rota.specs.Believed.Order.{Ascends}

-- a reference is always or names one of h hours records
abbrev pub RefWell : ℕ → HoursRef → Type 0
RefWell h r = dangling h r ≡ false

pub record RowWell (top roles h : ℕ) (w : Row) : Type 0 where
  pub number : w.number < top
  pub role : w.role < roles
  pub hours : RefWell h w.hours

-- rows of a rota of format n: 3 has them ascend
abbrev pub InOrder : ℕ → List Row → Type 0
InOrder n rows = n ≡ 3 → Ascends 0 rows

pub record RotaWell (ρ : Rota) : Type 0 where
  pub format : (ρ.format ≡ 1) ⊎ (ρ.format ≡ 3)
  pub cycle-some : 0 < ρ.cycle
  pub cycle-most : ρ.cycle ≤ 40320
  pub hours-most : length ρ.hours ≤ 32
  pub users-most : ρ.users ≤ 64
  pub permissions-most : ρ.permissions ≤ 64
  pub roles-most : length ρ.roles ≤ 32
  pub user-rows-most : length ρ.user-rows ≤ 512
  pub permission-rows-most : length ρ.permission-rows ≤ 512
  pub hours : All (HoursWell ρ.cycle) ρ.hours
  pub pairs-most : pairs_in ρ.hours ≤ 256
  pub roles : All (RefWell (length ρ.hours)) ρ.roles
  pub user-rows : All (RowWell ρ.users (length ρ.roles) (length ρ.hours)) ρ.user-rows
  pub permission-rows : All (RowWell ρ.permissions (length ρ.roles) (length ρ.hours)) ρ.permission-rows
  pub users-ordered : InOrder ρ.format ρ.user-rows
  pub permissions-ordered : InOrder ρ.format ρ.permission-rows
