-- A field by the hours that hold in it, as the code goes about it. Nothing here is part of the rules: each definition is proved to give what the
-- rules give.
use Rattle.std.specs.Prelude.{ℕ, Bool, not, ◌&&◌, List, ltb, eqb, length, get_or, Option, None, Some}
use Rattle.ground.specs.Believed.Choice.{pick}
use Rattle.ground.specs.Believed.Search.{any}
use Rattle.bitset.specs.Believed.Sets.{has, insert, set_of}
use Rattle.minutes.specs.Believed.Minutes.{Window}
use Rattle.minutes.specs.First.{minute_of}
use Rattle.hours.specs.Believed.Hours.{holds, never}
use Rattle.hours.specs.declared.HoursRef.{HoursRef}
use Rattle.hours.specs.declared.HoursRef.TheVariants.{Always, Numbered}
use Rattle.rota.specs.Believed.Rota.{Row, Rota, role_hours}
use Rattle.table.specs.Believed.Table.{Entry}

-- the numbers of the hours records that hold in a field, and 32 for always; nothing where the field has no minute
unfoldable pub mask_of : Rota → Window → ℕ
mask_of ρ f =
    let t = minute_of ρ.cycle f in
    pick (ltb t f.end) (insert (set_of (length ρ.hours) (λ k. holds ρ.cycle (get_or ρ.hours k never) t)) 32) 0

-- a reference's number in a mask
unfoldable pub slot_of : HoursRef → ℕ
slot_of Always = 32
slot_of (Numbered k) = k

-- some row of number x and role r has hours that are in the mask
unfoldable pub assigned_in : ℕ → List Row → ℕ → ℕ → Bool
assigned_in m rows x r = any (λ (w : Row). eqb w.number x && eqb w.role r && has m (slot_of w.hours)) rows

unfoldable pub users_in : Rota → ℕ → ℕ → ℕ
users_in ρ r m = set_of ρ.users (λ u. assigned_in m ρ.user-rows u r)

unfoldable pub permissions_in : Rota → ℕ → ℕ → ℕ
permissions_in ρ r m = set_of ρ.permissions (λ p. assigned_in m ρ.permission-rows p r)

-- what a field with this mask gives for role r
unfoldable pub kept_in : Rota → ℕ → ℕ → Option Entry
kept_in ρ r m =
    pick (has m (slot_of (role_hours ρ r)) && not (eqb (users_in ρ r m) 0) && not (eqb (permissions_in ρ r m) 0))
    (Some (record { source = r; users = users_in ρ r m; permissions = permissions_in ρ r m })) None
