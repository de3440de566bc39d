-- Where the rows of each role begin, and what a row says of a minute: what the steps promise each other, which no reader has to believe.
use Rattle.std.specs.Prelude.{ℕ, ◌≤◌, ◌<◌, ◌≡◌, Bool, false, ◌&&◌, ◌||◌, List, Option, leb, length, get_or}
use Rattle.minutes.specs.Believed.Minutes.{Window}
use Rattle.table.specs.Believed.Table.{through}
use Rattle.table.specs.Believed.TableBytes.{roles_of, rows_of, table_of}
use Rattle.table.specs.Believed.TableRefusals.{source_of}
use Rattle.table.specs.declared.Counts.{Counts}
use Rattle.table_search.specs.Rows.{row_for, few_rows}

-- the first `a` rows are of roles below r
abbrev pub RowsBelow : List ℕ → ℕ → ℕ → Type 0
RowsBelow s r a = (i : ℕ) → i < a → source_of s i < r

-- where the rows of role r begin: those before are of lower roles, those from there on are not
pub record BeginsAt (s : List ℕ) (r a : ℕ) : Type 0 where
  pub most : a ≤ rows_of s
  pub below : RowsBelow s r a
  pub above : (i : ℕ) → a ≤ i → i < rows_of s → r ≤ source_of s i

-- for each of the first n roles, where its rows begin; and for every role
pub record FirstOf (s : List ℕ) (n : ℕ) (starts : List ℕ) : Type 0 where
  pub long : length starts ≡ 32
  pub begins : (r : ℕ) → r < n → BeginsAt s r (get_or starts r 0)

abbrev pub FirstRows : List ℕ → List ℕ → Type 0
FirstRows s starts = FirstOf s (roles_of s) starts

-- what is found out once for many questions
abbrev pub Noted : List ℕ → Counts → List ℕ → Type 0
Noted s n starts = few_rows n ≡ false → FirstRows s starts

-- at minute t, whose phase is x, a window has ended, or its dates and its cell have started
unfoldable pub has_begun : Window → ℕ → ℕ → Bool
has_begun w t x = leb w.end t || (leb w.begin t && leb w.offset x)

-- v is whether a role answers at a minute: every role and minute whose row this is
abbrev pub Decides : List ℕ → ℕ → ℕ → Option ℕ → Bool → Type 0
Decides s u p row v = (r t : ℕ) → row ≡ row_for s r t → v ≡ through (table_of s) u p t r
