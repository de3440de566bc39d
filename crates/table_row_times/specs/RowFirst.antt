-- One row of a table: what it takes that its minutes are found by arithmetic, and the first minute at which it grants. What steps promise each other,
-- which no reader has to believe.
use Rattle.std.specs.Prelude.{ℕ, ◌+◌, ◌≤◌, ◌<◌, List}
use Rattle.ground.specs.From.{first_from}
use Rattle.minutes.specs.Believed.Minutes.{E}
use Rattle.table.specs.Believed.TableBytes.{cycle_of, row_at_byte}
use Rattle.table_answers.specs.Grants.{RowInside, grants_at, row_grants}

-- the row at a position and its entry lie inside the bytes, and its window is one that the reader admits
pub record RowReady (s : List ℕ) (at : ℕ) : Type 0 where
  pub inside : RowInside s at
  pub ordered : (row_at_byte s at).window.begin < (row_at_byte s at).window.end
  pub ends : (row_at_byte s at).window.end ≤ E
  pub some-length : 0 < (row_at_byte s at).window.length
  pub in-cycle : (row_at_byte s at).window.offset + (row_at_byte s at).window.length ≤ cycle_of s
  pub cycle-most : cycle_of s ≤ 40320

-- the first minute from m to before n at which the row at a position grants permission p to user u, or n
unfoldable pub row_first : List ℕ → ℕ → ℕ → ℕ → ℕ → ℕ → ℕ
row_first s u p m n at = first_from m n (λ t. grants_at s u p t at)

-- the same of row i
unfoldable pub first_of_row : List ℕ → ℕ → ℕ → ℕ → ℕ → ℕ → ℕ
first_of_row s u p m n i = first_from m n (λ t. row_grants s u p t i)
