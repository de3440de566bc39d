-- What the steps promise each other of one row at a minute.
use Rattle.std.specs.Prelude.{ℕ, ◌+◌, ◌*◌, ◌≤◌, Bool, ◌&&◌, List, length}
use Rattle.ground.specs.Believed.Choice.{pick}
use Rattle.endian.specs.Believed.Numbers.{u32_at}
use Rattle.bitset.specs.Believed.Sets.{has}
use Rattle.minutes.specs.Believed.Minutes.{covers}
use Rattle.table.specs.Believed.Table.{Entry}
use Rattle.table.specs.Believed.TableBytes.{cycle_of, entry_of, row_at_byte, row_of}

-- the row at a position and its entry lie inside the bytes
pub record RowInside (s : List ℕ) (at : ℕ) : Type 0 where
  pub row : at + 16 ≤ length s
  pub entry : 16 + 17 * u32_at s at + 17 ≤ length s

-- the entry of the row at a position has user u and permission p
abbrev pub both_at : List ℕ → ℕ → ℕ → ℕ → Bool
both_at s u p at = has (entry_of s (u32_at s at)).users u && has (entry_of s (u32_at s at)).permissions p

-- the row at a position covers t, and its entry has user u and permission p
unfoldable pub grants_at : List ℕ → ℕ → ℕ → ℕ → ℕ → Bool
grants_at s u p t at =
    covers (cycle_of s) (row_at_byte s at).window t && has (entry_of s (u32_at s at)).users u && has (entry_of s (u32_at s at)).permissions p

-- row i covers t, and the entry of row i
abbrev pub covering : List ℕ → ℕ → ℕ → Bool
covering s t i = covers (cycle_of s) (row_of s i).window t

abbrev pub owned : List ℕ → ℕ → Entry
owned s i = entry_of s (row_of s i).derived

-- the entry of row i has user u and permission p
abbrev pub both_of : List ℕ → ℕ → ℕ → ℕ → Bool
both_of s u p i = has (owned s i).users u && has (owned s i).permissions p

-- row i covers t, and its entry has user u and permission p
unfoldable pub row_grants : List ℕ → ℕ → ℕ → ℕ → ℕ → Bool
row_grants s u p t i = covering s t i && has (owned s i).users u && has (owned s i).permissions p

-- the users of the entry of row i where the row covers t, else none
unfoldable pub row_users : List ℕ → ℕ → ℕ → ℕ
row_users s t i = pick (covering s t i) (owned s i).users 0
