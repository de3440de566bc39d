-- Where the derived role of a field stands, its mark, and the entries after it.
use Rattle.std.specs.Prelude.{ℕ, ◌+◌, ◌≤◌, ◌≡◌, max, List, Option, None, Some}
use Rattle.table.specs.Believed.Table.{Entry}
use Rattle.rewrite_rules.specs.Roles.{next_entries, mark_of}
use Rattle.rewrite_index.specs.Entries.{entries_to}

-- the mark of a field whose derived role stands at this place
abbrev pub mark_at : Option ℕ → ℕ
mark_at None = 0
mark_at (Some k) = k + 1

-- how many entries there are with one at this place
abbrev pub grown : ℕ → Option ℕ → ℕ
grown d place = max d (mark_at place)

-- one field: the place of its derived role, and the entries afterwards
pub record Marked (source : ℕ) (kept : Option Entry) (d : ℕ) (pairs pairs' : List ℕ) (place : Option ℕ) : Type 0 where
  pub marked : mark_at place ≡ mark_of (entries_to source d pairs) kept
  pub small : mark_at place ≤ d + 1
  pub entries-then : entries_to source (grown d place) pairs' ≡ next_entries (entries_to source d pairs) kept
