-- The row of a source role that covers a minute, and where the other rows stand then: what the steps of the search promise each other, which no reader
-- has to believe.
use Rattle.std.specs.Prelude.{ℕ, ◌+◌, ◌/◌, ◌%◌, ◌≤◌, ◌<◌, ◌≡◌, ◌⊎◌, Bool, true, ◌&&◌, List, Option, eqb, ltb}
use Rattle.std.specs.declared.cmp.Ordering.{Ordering}
use Rattle.std.specs.declared.cmp.Ordering.TheVariants.{Less, Equal, Greater}
use Rattle.ground.specs.Believed.Search.{lowest_below}
use Rattle.minutes.specs.Believed.Minutes.{Window, covers}
use Rattle.table.specs.Believed.TableBytes.{cycle_of, rows_of, row_of}
use Rattle.table.specs.Believed.TableRefusals.{source_of}
use Rattle.table.specs.declared.Counts.{Counts}

-- row i is of role r and covers minute t
abbrev pub covers_for : List ℕ → ℕ → ℕ → ℕ → Bool
covers_for s r t i = eqb (source_of s i) r && covers (cycle_of s) (row_of s i).window t

-- the row of role r that covers minute t
unfoldable pub row_for : List ℕ → ℕ → ℕ → Option ℕ
row_for s r t = lowest_below (rows_of s) (covers_for s r t)

-- rows go by source role, then by dates, then by phase; a window of role q is behind role r at minute t, whose phase is x, or ahead of it
abbrev pub Behind : ℕ → Window → ℕ → ℕ → ℕ → Type 0
Behind q w r t x = (q < r) ⊎ ((q ≡ r) × (w.begin ≤ t) × ((w.end ≤ t) ⊎ (w.offset + w.length ≤ x)))

abbrev pub Ahead : ℕ → Window → ℕ → ℕ → ℕ → Type 0
Ahead q w r t x = (r < q) ⊎ ((q ≡ r) × ((t < w.begin) ⊎ ((t < w.end) × (x < w.offset))))

-- what it says of row i that it stands before the row of role r that covers minute t, at it or after it
abbrev pub Stands : List ℕ → ℕ → ℕ → ℕ → Ordering → Type 0
Stands s r t i Less = Behind (source_of s i) (row_of s i).window r t (t % cycle_of s)
Stands s r t i Equal = covers_for s r t i ≡ true
Stands s r t i Greater = Ahead (source_of s i) (row_of s i).window r t (t % cycle_of s)

-- the roles of a table have fewer than 16 rows on average, which are passed and not searched
abbrev pub few_rows : Counts → Bool
few_rows n = ltb (n.rows / 16) n.roles
