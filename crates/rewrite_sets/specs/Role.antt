-- A role by hours: what it has in a field with a given mask, and the role that a rota's rows make.
use Rattle.std.specs.Prelude.{ℕ, ◌≡◌, not, ◌&&◌, List, eqb, Option, None, Some, IfSome}
use Rattle.ground.specs.Believed.Choice.{pick}
use Rattle.ground.specs.Believed.Search.{any}
use Rattle.ground.specs.Believed.Sequence.{list_of}
use Rattle.bitset.specs.Believed.Sets.{has, set_of}
use Rattle.rewrite_unions.specs.Union.{union_of, all_of}
use Rattle.rota.specs.Believed.Rota as rota
use Rattle.table.specs.Believed.Table.{Entry}
use Rattle.rewrite_rules.specs.Masks.{slot_of}
use Rattle.rewrite_trees.specs.Tree.{Within}
use Rattle.rewrite_sets.specs.declared.Role.{Role}
use Rattle.rewrite_sets.specs.declared.Loaded.{Loaded}
use Rattle.rewrite_sets.specs.declared.Sets.{Sets}

-- the role whose unions are at hand
abbrev pub role_in : Loaded → Role
role_in ρ = record { source = ρ.source; on = ρ.on; users = ρ.users; permissions = ρ.permissions }

abbrev pub sets_made : ℕ → ℕ → Sets
sets_made users permissions = record { users = users; permissions = permissions }

-- the two sets of a role that is enabled in slot `on`; nothing where the slot is not in the mask
unfoldable pub sets_in : ℕ → List ℕ → List ℕ → ℕ → Sets
sets_in on users permissions m = pick (has m on) (sets_made (union_of users m 33) (union_of permissions m 33)) (sets_made 0 0)

abbrev pub entry_of : ℕ → Sets → Entry
entry_of source x = record { source = source; users = x.users; permissions = x.permissions }

-- a field is kept where neither set is empty
abbrev pub kept_with : ℕ → Sets → Option Entry
kept_with source x = pick (not (eqb x.users 0) && not (eqb x.permissions 0)) (Some (entry_of source x)) None

-- what a field with mask m gives for the role
unfoldable pub kept_by : Role → ℕ → Option Entry
kept_by ρ m = kept_with ρ.source (sets_in ρ.on ρ.users ρ.permissions m)

-- the entry of two sets, where there are some
abbrev pub entry_with : ℕ → Option Sets → Option Entry
entry_with source None = None
entry_with source (Some x) = Some (entry_of source x)

-- the two sets of a field with mask m, where there are some: what it gives for the role, out of all its users and all its permissions
pub record Gathered (ρ : Role) (m : ℕ) (o : Option Sets) : Type 0 where
  pub kept : entry_with ρ.source o ≡ kept_by ρ m
  pub within : IfSome o (λ x. Within x.users (all_of ρ.users) × Within x.permissions (all_of ρ.permissions))

-- the numbers that some row gives to role r in slot k
unfoldable pub at_slot : List rota.Row → ℕ → ℕ → ℕ
at_slot rows r k = set_of 64 (λ x. any (λ (w : rota.Row). eqb w.number x && eqb w.role r && eqb (slot_of w.hours) k) rows)

unfoldable pub by_slot : List rota.Row → ℕ → List ℕ
by_slot rows r = list_of 33 (at_slot rows r)

-- role r of a rota
unfoldable pub role_of : rota.Rota → ℕ → Role
role_of ρ r =
    record {
      source = r;
      on = slot_of (rota.role_hours ρ r);
      users = by_slot ρ.user-rows r;
      permissions = by_slot ρ.permission-rows r;
    }
