-- The derived roles of one role in the order in which they come, and the mark of each mask.
use Rattle.std.specs.Prelude.{ℕ, ◌+◌, ◌*◌, ◌≤◌, ◌<◌, ◌≡◌, List, [], ◌∷◌, length, take}
use Rattle.rewrite_rules.specs.Roles.{derived_from, marks_from}
use Rattle.rewrite_rules.specs.Kinds.{masks_in}
use Rattle.rewrite_index.specs.Entries.{entries_to}
use Rattle.rewrite_sets.specs.declared.Role.{Role}
use Rattle.rewrite_sets.specs.Role.{kept_by}

-- room for n sets of hours, with w trees; a mark fits two bytes
pub record Room (n w : ℕ) (sets pairs marks links : List ℕ) : Type 0 where
  pub few : n ≤ 33345
  pub for-sets : n ≤ length sets
  pub for-pairs : 2 * n ≤ length pairs
  pub for-marks : n < length marks
  pub for-links : w + 2 * n ≤ length links
  pub some : 0 < w
  pub trees : w ≤ 65536

-- a whole role; its marks stand behind that of kind 0
pub record Derived (role : Role) (sets : List ℕ) (n : ℕ) (pairs marks : List ℕ) (d : ℕ) : Type 0 where
  pub few : d ≤ n
  pub count-is : d ≡ length (derived_from (kept_by role) [] (masks_in sets n))
  pub entries-are : entries_to role.source d pairs ≡ derived_from (kept_by role) [] (masks_in sets n)
  pub marks-are : take (n + 1) marks ≡ 0 ∷ marks_from (kept_by role) [] (masks_in sets n)

-- a role so far as it was derived: no more than it has, and the whole where its derived roles are not over the limit
pub record DerivedTo (limit : ℕ) (role : Role) (sets : List ℕ) (n : ℕ) (pairs marks : List ℕ) (d : ℕ) : Type 0 where
  pub few : d ≤ n
  pub least : d ≤ length (derived_from (kept_by role) [] (masks_in sets n))
  pub whole : d ≤ limit → Derived role sets n pairs marks d
