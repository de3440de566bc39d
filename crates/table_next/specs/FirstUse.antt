-- What the steps of the pass over the rows promise each other, which no reader has to believe.
use Rattle.std.specs.Prelude.{ℕ, Bool, ◌&&◌, ◌||◌, List, Option, leb, ltb, eqb}
use Rattle.ground.specs.From.{first_from}
use Rattle.ground.specs.Believed.Search.{any_below, lowest_below}
use Rattle.minutes.specs.Believed.Minutes.{E}
use Rattle.table.specs.Believed.Table.{Table, through}
use Rattle.table.specs.Believed.TableBytes.{row_of}
use Rattle.table.specs.Believed.TableRefusals.{source_of}
use Rattle.table_answers.specs.Grants.{row_grants}

-- row i is of a role below `below` and grants at t
unfoldable pub grants_below : List ℕ → ℕ → ℕ → ℕ → ℕ → ℕ → Bool
grants_below s u p below t i = ltb (source_of s i) below && row_grants s u p t i

-- the first minute from m on at which one of the first k rows does, or E
unfoldable pub first_of_rows : List ℕ → ℕ → ℕ → ℕ → ℕ → ℕ → ℕ
first_of_rows s u p m below k = first_from m E (λ t. any_below k (grants_below s u p below t))

-- the rows from row k to row `last` are of one role, and are over at m or begin at `best` or later, going by the last and the first of them
unfoldable pub idle : List ℕ → ℕ → ℕ → ℕ → ℕ → Bool
idle s m best k last =
    (leb (row_of s last).window.end m || leb best (row_of s k).window.begin) && eqb (source_of s k) (source_of s last)

-- the first minute from m on at which a role below `below` answers to user u and permission p
unfoldable pub first_use : Table → ℕ → ℕ → ℕ → ℕ → Option ℕ
first_use τ u p m below = lowest_below E (λ t. leb m t && any_below below (through τ u p t))
