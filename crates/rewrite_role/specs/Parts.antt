-- What the steps from the bytes of a role to its derived roles promise one another.
use Rattle.std.specs.Prelude.{ℕ, ◌+◌, ◌*◌, ◌≤◌, ◌<◌, ◌≡◌, List, [], map, length}
use Rattle.rota.specs.Believed.RotaBytes.{hours_of, rota_of, row_at}
use Rattle.rota.specs.RotaWell.{RefWell}
use Rattle.rewrite_rules.specs.Believed.Rewriting.{fields}
use Rattle.rewrite_rules.specs.Kinds.{masks_from, kinds_from, by_kind, masks_in}
use Rattle.rewrite_rules.specs.Roles.{entries_at, rows_at, rows_marked}
use Rattle.rewrite_index.specs.Entries.{entries_to}
use Rattle.rewrite_masks.specs.Kinds.{masks_of}

-- n rows from `at` on lie inside the bytes, with numbers below 64 and hours that are always or one of at most 32 records
pub record RowsFit (s : List ℕ) (at n : ℕ) : Type 0 where
  pub inside : at + 3 * n ≤ length s
  pub few-hours : hours_of s ≤ 32
  pub numbers : (k : ℕ) → k < n → (row_at s at k).number < 64
  pub hours : (k : ℕ) → k < n → RefWell (hours_of s) (row_at s at k).hours

-- the first n sets are the hours of the distinct masks
abbrev pub SetsAre : List ℕ → List ℕ → ℕ → Type 0
SetsAre s sets n = masks_in sets n ≡ masks_from [] (masks_of s)

-- role r's derived roles stand in pairs, and the mark of each kind in marks
pub record RoleDerived (s : List ℕ) (r n : ℕ) (pairs marks : List ℕ) (d : ℕ) : Type 0 where
  pub few : d ≤ n
  pub entries-are : entries_to r d pairs ≡ entries_at (rota_of s) r
  pub entry-count : d ≡ length (entries_at (rota_of s) r)
  pub rows_are : (base : ℕ) → rows_marked base (fields (rota_of s)) (map (by_kind marks) (kinds_from [] (masks_of s))) ≡ rows_at (rota_of s) r base

-- so far as the role was derived: no more than it has, and the whole where its derived roles are not over the limit
pub record RoleDerivedTo (limit : ℕ) (s : List ℕ) (r n : ℕ) (pairs marks : List ℕ) (d : ℕ) : Type 0 where
  pub few : d ≤ n
  pub least : d ≤ length (entries_at (rota_of s) r)
  pub whole : d ≤ limit → RoleDerived s r n pairs marks d
