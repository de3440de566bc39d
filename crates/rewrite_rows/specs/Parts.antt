-- The rows that are written, by the marks of the fields, and how many they are.
use Rattle.std.specs.Prelude.{ℕ, zero, suc, ◌+◌, ◌*◌, ◌≤◌, ◌<◌, ◌≡◌, not, ◌&&◌, List, [], ◌∷◌, map, eqb, length, get_or, take, drop}
use Rattle.std.proofs.Math.Seq.{slice}
use Rattle.ground.specs.Believed.Choice.{pick}
use Rattle.minutes.specs.Believed.Minutes.{Window}
use Rattle.table.specs.Believed.Table.{Row}
use Rattle.rewrite_rules.specs.Believed.Cuts.{gaps}
use Rattle.rewrite_rules.specs.Believed.Joined.{join_rows}
use Rattle.rewrite_rules.specs.Kinds.{by_kind}
use Rattle.rewrite_rules.specs.Believed.Rewriting.{field_of, fields_of}
use Rattle.rewrite_rules.specs.Roles.{rows_marked}
use Rattle.rewrite_grid.specs.Stretches.{field_kinds}

-- the mark of each field, or stretch of fields, is that of its kind
unfoldable pub field_marks : List ℕ → List ℕ → List ℕ
field_marks marks kinds = map (by_kind marks) kinds

-- each of the first n stretches has a kind that has a mark
pub record HaveMarks (n : ℕ) (kinds marks : List ℕ) : Type 0 where
  pub long : n ≤ length kinds
  pub below : (i : ℕ) → i < n → get_or kinds i 0 < length marks

-- the stretches of an era: each has a field, and all have its nc fields
pub record EraStretched (nc : ℕ) (kinds lens : List ℕ) : Type 0 where
  pub long : length kinds ≤ length lens
  pub some : (j : ℕ) → j < length kinds → 0 < get_or lens j 0
  pub whole : length (field_kinds kinds lens (length kinds)) ≡ nc

-- the field of an era and a cell, or a run of cells
abbrev pub cell_of : ℕ → ℕ → ℕ → ℕ → Window
cell_of begin end low high = field_of (record { low = begin; high = end }) (record { low = low; high = high })

-- the rows of an era with nc cells whose marks begin at `first`, and those of all ne eras (below): rows that touch are one
unfoldable pub era_rows : ℕ → ℕ → ℕ → List ℕ → ℕ → List ℕ → ℕ → List Row
era_rows base begin end cells nc ks first =
    join_rows (rows_marked base (map (field_of (record { low = begin; high = end })) (gaps (take (nc + 1) cells))) (take nc (drop first ks)))

-- the rows of an era by its stretches
abbrev pub stretch_rows : ℕ → ℕ → ℕ → List ℕ → ℕ → List ℕ → List ℕ → List ℕ → List Row
stretch_rows base begin end cells nc kinds lens marks = era_rows base begin end cells nc (field_marks marks (field_kinds kinds lens (length kinds))) 0

unfoldable pub role_rows : ℕ → List ℕ → ℕ → List ℕ → ℕ → List ℕ → List Row
role_rows base eras ne cells nc ks = join_rows (rows_marked base (fields_of (gaps (take (ne + 1) eras)) (gaps (take (nc + 1) cells))) (take (ne * nc) ks))

-- a field with mark m, after one with mark `run`, begins a row: it has one, and not the same
abbrev pub starts_row : ℕ → ℕ → ℕ
starts_row m run = pick (not (eqb m 0) && not (eqb m run)) 1 0

-- how many rows begin in an era whose cells, or stretches of cells, have these marks, after one with mark `run`
unfoldable pub runs_in : ℕ → List ℕ → ℕ
runs_in run [] = 0
runs_in run (m ∷ ms) = starts_row m run + runs_in m ms

-- and in n eras with nc cells each
unfoldable pub runs_of : ℕ → ℕ → List ℕ → ℕ
runs_of zero nc ks = 0
runs_of (suc n) nc ks = runs_in 0 (take nc ks) + runs_of n nc (drop nc ks)

-- and in the first e eras, by the marks ms of the stretches: those of era e stand from the place at e in `ends` to before the one at e + 1
unfoldable pub runs_to : List ℕ → List ℕ → ℕ → ℕ
runs_to ends ms zero = 0
runs_to ends ms (suc e) = runs_to ends ms e + runs_in 0 (slice (get_or ends e 0) (get_or ends (suc e) 0) ms)

-- a count of rows that stops past `limit`: the total where it is at most that, else no more than the total. It is at most `bound`.
pub record CountedRows (limit total bound r : ℕ) : Type 0 where
  pub least : r ≤ total
  pub whole : r ≤ limit → r ≡ total
  pub most : r ≤ bound
