-- What counting promises.
use Rattle.std.specs.Prelude.{ℕ, zero, suc, ◌+◌, ◌-◌, ◌*◌, ◌≤◌, ◌<◌, ◌≡◌, List, length, get_or, drop, is_some, IsSome}
use Rattle.rota.specs.Believed.RotaBytes.{rota_of}
use Rattle.table.specs.Believed.Table.{Table}
use Rattle.rewrite_rules.specs.Believed.Rewriting.{size_of}
use Rattle.rewrite_rules.specs.Roles.{rewrite_roles}
use Rattle.rewrite_derive.specs.Derive.{Room}
use Rattle.rewrite_role.specs.Parts.{RoleDerived}
use Rattle.rewrite_count.specs.declared.Count.{Count}
use Rattle.rewrite_count.specs.declared.fields.Fields.{Fields}
use Rattle.rewrite_count.specs.declared.fields.Roles.{Roles}
use Rattle.rewrite_count.specs.declared.scratch.Scratch.{Scratch}

-- the length of a table with so many entries and rows
abbrev pub length_with : ℕ → ℕ → ℕ
length_with d rows = 16 + 17 * d + 16 * rows

-- the table of the roles
abbrev pub table_of : Roles → Table
table_of ρ = rewrite_roles (rota_of ρ.bytes.now) ρ.first ρ.end

-- counts that are a table's, or already too many for the room
pub record CountedTo (τ : Table) (room : ℕ) (k : Count) : Type 0 where
  pub few : k.entries ≤ 1067040
  pub few-rows : k.rows ≤ 1067040
  pub exact : length_with k.entries k.rows ≤ room → (k.entries ≡ length τ.entries) × (k.rows ≡ length τ.rows)
  pub over : room < length_with k.entries k.rows → room < size_of τ

-- room for the marks and the derived roles of so many roles, each in a place of its own
pub record KeepRoom (roles n : ℕ) (pairs marks : List ℕ) : Type 0 where
  pub for-pairs : 2 * (roles * n) ≤ length pairs
  pub for-marks : roles * (n + 1) ≤ length marks

-- room for a role from these places of the scratch on
abbrev pub RoomFrom : Fields → ℕ → ℕ → Scratch → Type 0
RoomFrom f at from s = Room f.mask_count s.trees f.masks.now (drop at s.pairs.now) (drop from s.marks.now) s.links.now

-- scratch with room for a role, and where the roles are kept for all of them
pub record RoomFor (f : Fields) (s : Scratch) : Type 0 where
  pub room : Room f.mask_count s.trees f.masks.now s.pairs.now s.marks.now s.links.now
  pub for-kept : IsSome s.kept → KeepRoom (f.roles.now.end - f.roles.now.first) f.mask_count s.pairs.now s.marks.now

-- the room stays: each slice is the one that was lent, as long as it was, there are as many trees, and roles are kept as before
pub record SameRoom (before after : Scratch) : Type 0 where
  pub same-pairs : after.pairs.ghost_name ≡ before.pairs.ghost_name
  pub same-marks : after.marks.ghost_name ≡ before.marks.ghost_name
  pub same-links : after.links.ghost_name ≡ before.links.ghost_name
  pub pairs : length after.pairs.now ≡ length before.pairs.now
  pub marks : length after.marks.now ≡ length before.marks.now
  pub links : length after.links.now ≡ length before.links.now
  pub trees : after.trees ≡ before.trees
  pub kept : is_some after.kept ≡ is_some before.kept

-- how many derived roles the first i roles have
unfoldable pub found_to : List ℕ → ℕ → ℕ
found_to found zero = 0
found_to found (suc i) = found_to found i + get_or found i 0

-- the derived roles of the i roles from `first` on stand in pairs one after the other, and in marks the n + 1 marks of each
pub record Kept (s : List ℕ) (first i n : ℕ) (found pairs marks : List ℕ) : Type 0 where
  pub each : (j : ℕ) → j < i → RoleDerived s (first + j) n (drop (2 * found_to found j) pairs) (drop (j * (n + 1)) marks) (get_or found j 0)

-- all roles are kept so
abbrev pub AllKept : Fields → List ℕ → Scratch → Type 0
AllKept f found s = Kept f.roles.now.bytes.now f.roles.now.first (f.roles.now.end - f.roles.now.first) f.mask_count found s.pairs.now s.marks.now

-- role r, with d derived roles, stands from these places on
abbrev pub RoleFrom : Fields → ℕ → ℕ → ℕ → Scratch → ℕ → Type 0
RoleFrom f r at from s d = RoleDerived f.roles.now.bytes.now r f.mask_count (drop at s.pairs.now) (drop from s.marks.now) d
