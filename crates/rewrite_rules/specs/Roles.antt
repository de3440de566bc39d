-- The rewriting role by role, and one role by the masks of its fields, as the code goes about it. Nothing here is part of the rules: each definition
-- is proved to give what the rules give.
use Rattle.std.specs.Prelude.{ℕ, zero, suc, ◌+◌, ◌-◌, List, [], ◌∷◌, ◌++◌, map, length, Option, None, Some}
use Rattle.minutes.specs.Believed.Minutes.{Window}
use Rattle.rota.specs.Believed.Rota.{Rota}
use Rattle.table.specs.Believed.Table.{Entry, Row, Table}
use Rattle.rewrite_rules.specs.Believed.Distinct.{add_new, place_of}
use Rattle.rewrite_rules.specs.Believed.Joined.{join_rows}
use Rattle.rewrite_rules.specs.Believed.Rewriting.{fields, Kept, kept_of, same, entries_of}

-- the derived roles of role r
unfoldable pub entries_at : Rota → ℕ → List Entry
entries_at ρ r = entries_of (kept_of ρ r (fields ρ))

-- a kept field's row, with the derived roles es counted on from base
abbrev pub row_at : ℕ → List Entry → Kept → Row
row_at base es k = record { derived = base + place_of same k.entry es; window = k.field }

-- the rows of role r
unfoldable pub rows_at : Rota → ℕ → ℕ → List Row
rows_at ρ r base = map (row_at base (entries_at ρ r)) (kept_of ρ r (fields ρ))

-- n roles from r on
unfoldable pub entries_from : Rota → ℕ → ℕ → List Entry
entries_from ρ zero r = []
entries_from ρ (suc n) r = entries_at ρ r ++ entries_from ρ n (suc r)

unfoldable pub rows_from : Rota → ℕ → ℕ → ℕ → List Row
rows_from ρ zero r base = []
rows_from ρ (suc n) r base = rows_at ρ r base ++ rows_from ρ n (suc r) (base + length (entries_at ρ r))

-- the same with the rows that touch joined: no row touches one of another role
unfoldable pub joined_at : Rota → ℕ → ℕ → List Row
joined_at ρ r base = join_rows (rows_at ρ r base)

unfoldable pub joined_from : Rota → ℕ → ℕ → ℕ → List Row
joined_from ρ zero r base = []
joined_from ρ (suc n) r base = joined_at ρ r base ++ joined_from ρ n (suc r) (base + length (entries_at ρ r))

-- the table of the roles from `first` on, up to `end`, with the header of the whole rota's table
unfoldable pub rewrite_roles : Rota → ℕ → ℕ → Table
rewrite_roles ρ first end =
    record {
      cycle = ρ.cycle;
      users = ρ.users;
      permissions = ρ.permissions;
      roles = length ρ.roles;
      entries = entries_from ρ (end - first) first;
      rows = joined_from ρ (end - first) first 0;
    }

-- the derived roles after one more field, and the field's mark: 0 where it is not kept, else one more than the place of its derived role
unfoldable pub next_entries : List Entry → Option Entry → List Entry
next_entries es None = es
next_entries es (Some e) = add_new same es e

unfoldable pub mark_of : List Entry → Option Entry → ℕ
mark_of es None = 0
mark_of es (Some e) = suc (place_of same e es)

-- the masks in turn, of which g says what a field with each gives, with the derived roles es so far
unfoldable pub derived_from : (ℕ → Option Entry) → List Entry → List ℕ → List Entry
derived_from g es [] = es
derived_from g es (m ∷ ms) = derived_from g (next_entries es (g m)) ms

unfoldable pub marks_from : (ℕ → Option Entry) → List Entry → List ℕ → List ℕ
marks_from g es [] = []
marks_from g es (m ∷ ms) = mark_of es (g m) ∷ marks_from g (next_entries es (g m)) ms

-- a field with its mark: no row, or one with its derived role counted on from base
abbrev pub marked : ℕ → Window → ℕ → List Row → List Row
marked base f zero ws = ws
marked base f (suc k) ws = record { derived = base + k; window = f } ∷ ws

unfoldable pub rows_marked : ℕ → List Window → List ℕ → List Row
rows_marked base [] ks = []
rows_marked base (f ∷ fs) [] = []
rows_marked base (f ∷ fs) (k ∷ ks) = marked base f k (rows_marked base fs ks)
