-- Who holds a permission by the rows of a table, and how far: what the steps of the pass over the roles promise each other, which no reader has to
-- believe.
use Rattle.std.specs.Prelude.{ℕ, ◌+◌, ◌-◌, ◌^◌, ◌≤◌, ◌<◌, ◌≡◌, true, List}
use Rattle.bitset.specs.Believed.Sets.{has}
use Rattle.minutes.specs.Believed.Minutes.{E, covers}
use Rattle.minutes.specs.Lasting.{Lasting}
use Rattle.policy.specs.Believed.Policy.{holds_any}
use Rattle.table.specs.Believed.Table.{policy_of}
use Rattle.table.specs.Believed.TableBytes.{cycle_of, rows_of, entry_of, row_of, table_of}
use Rattle.table.specs.Believed.TableRefusals.{source_of}

-- user u holds a permission to before `until`, and, by the cycle, to before `era`
abbrev pub Holds : List ℕ → ℕ → ℕ → ℕ → ℕ → Type 0
Holds s u t until era = Lasting (λ v. holds_any (policy_of (table_of s)) v u) (cycle_of s) t until era

-- row i covers minute t, and its entry has user u
pub record Gives (s : List ℕ) (t u i : ℕ) : Type 0 where
  pub below : i < rows_of s
  pub covering : covers (cycle_of s) (row_of s i).window t ≡ true
  pub member : has (entry_of s (row_of s i).derived).users u ≡ true

-- of `among` the set has those to whom the rows of roles below r give a permission at t, and each of them holds one for so long
pub record HeldBy (s : List ℕ) (r among t set until era : ℕ) : Type 0 where
  pub small : set < 2 ^ 64
  pub among-them : (u : ℕ) → u < 64 → has set u ≡ true → has among u ≡ true
  pub lasts : (u : ℕ) → u < 64 → has set u ≡ true → Holds s u t until era
  pub all : (u i : ℕ) → u < 64 → has among u ≡ true → source_of s i < r → Gives s t u i → has set u ≡ true
  pub after : t < until
  pub longer : t < era
  pub era-most : era ≤ E

-- the users `gain` hold a permission from minute t, whose phase is x, to phase `stop`, and by the cycle to before `era`
pub record Reaching (s : List ℕ) (t x stop era gain : ℕ) : Type 0 where
  pub lasts : (u : ℕ) → u < 64 → has gain u ≡ true → Holds s u t (t + (stop - x)) era
  pub after : x < stop
  pub in-cycle : stop ≤ cycle_of s

-- row i begins at phase `stop`; its dates have begun at minute t and do not end before `era`, and its users are all of `gain`
pub record GoesOn (s : List ℕ) (i t stop era gain : ℕ) : Type 0 where
  pub offset : (row_of s i).window.offset ≡ stop
  pub begun : (row_of s i).window.begin ≤ t
  pub lasting : era ≤ (row_of s i).window.end
  pub users : (u : ℕ) → u < 64 → has gain u ≡ true → has (entry_of s (row_of s i).derived).users u ≡ true
