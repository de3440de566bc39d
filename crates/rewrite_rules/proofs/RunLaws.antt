-- Joined rows as a loop over the cells of an era makes them, cell by cell: a run of cells with one mark is one row. `cell low high` is the field of
-- an era from the phase `low` to `high`.
--     run_on, run_ends, run-last    the next cell has the run's mark, or another; no cell is left
--     cells-later, rows-later       the rows of cells past a phase begin past it
--     era-by-era                    the rows of one era, then those of the later eras
--     rows_marked-all, marked_append what holds of all rows; the rows of fields one after the other
-- Assumes nothing.
use Prim.Native.Nat.{ℕ, zero, suc, ◌+◌, ◌-◌, ◌≤◌, ◌<◌}
use mathlib.Core.Path.{◌≡◌, refl, ap, ◌∙◌}
use mathlib.Core.Bool.{false}
use mathlib.Core.List.{List, [], ◌∷◌, ◌++◌, map}
use native.Mathlib.Omega.{arith}
use lib.ListN.{length, take, drop, length-map}
use Rattle.ground.specs.Believed.Sequence.{All}
use Rattle.ground.proofs.ListLaws.{all_map, all-with, all-unit}
use Rattle.minutes.specs.Believed.Minutes.{Window}
use Rattle.table.specs.Believed.Table.{Row}
use Rattle.rewrite_rules.specs.Believed.Cuts.{Gap, gaps_from}
use Rattle.rewrite_rules.specs.Believed.Joined.{touches, attach, join_rows}
use Rattle.rewrite_rules.specs.Believed.Rewriting.{field_of, fields_of}
use Rattle.rewrite_rules.specs.Roles.{marked, rows_marked}
use Rattle.rewrite_rules.proofs.CutLaws.{Above}
use Rattle.rewrite_rules.proofs.TableCuts.{gaps_from-low}
use Rattle.rewrite_rules.proofs.TableFields.{fields_of-all}
use Rattle.rewrite_rules.proofs.JoinLaws.{untouched, span-next, join_front, join-append}

-- what holds of all rows, from what holds of all fields
pub rows_marked-all : (P : Window → Type 0) (base : ℕ) (fs : List Window) (ks : List ℕ) → All P fs → All (λ (w : Row). P w.window) (rows_marked base fs ks)
unfolding rows_marked
rows_marked-all P base [] ks p = tt
rows_marked-all P base (f ∷ fs) [] p = tt
rows_marked-all P base (f ∷ fs) (zero ∷ ks) p = rows_marked-all P base fs ks p.1
rows_marked-all P base (f ∷ fs) (suc k ∷ ks) p = (p.0, rows_marked-all P base fs ks p.1)

pub run-last : (base : ℕ) (f : Window) (m : ℕ) → join_rows (marked base f m []) ≡ marked base f m []
unfolding join_rows attach
run-last base f zero = refl
run-last base f (suc k) = refl

module _ (base : ℕ) (era : Gap) where
  -- from phase low to high
  abbrev cell : ℕ → ℕ → Window
  cell low high = field_of era (record { low = low; high = high })

  -- the next cell has the same mark
  pub run_on : (low x y m : ℕ) (ws : List Row) → low ≤ x → x ≤ y
      → join_rows (marked base (cell low x) m (marked base (cell x y) m ws)) ≡ join_rows (marked base (cell low y) m ws)
  unfolding join_rows
  run_on low x y zero ws h k = refl
  run_on low x y (suc m) ws h k =
      let long : x - low + (y - x) ≡ y - low = omega arith in
      span-next (row low x) (row x y) (join_rows ws) (record { derived = refl; begin = refl; end = refl; phase = omega arith })
      ∙ ap (λ (n : ℕ). attach (record { derived = base + m; window = record { begin = era.low; end = era.high; offset = low; length = n } }) (join_rows ws)) long
    where
      row : ℕ → ℕ → Row
      row a b = record { derived = base + m; window = cell a b }

  -- it has another
  pub run_ends : (low x y m m' : ℕ) (ws : List Row) → (m ≡ m' → ⊥) → low ≤ x → x < y → All (λ (w : Row). x < w.window.offset) ws
      → join_rows (marked base (cell low x) m (marked base (cell x y) m' ws)) ≡ marked base (cell low x) m (join_rows (marked base (cell x y) m' ws))
  run_ends low x y zero m' ws ne h k p = refl
  run_ends low x y (suc m) m' ws ne h k p = join_front run (marked base (cell x y) m' ws) (go m' ne)
    where
      run : Row
      run = record { derived = base + m; window = cell low x }

      rest : All (λ (w : Row). touches run w ≡ false) ws
      rest = all-with (λ w q. untouched run w (λ t. omega (arith, t.phase))) ws p

      go : (k : ℕ) → (suc m ≡ k → ⊥) → All (λ (w : Row). touches run w ≡ false) (marked base (cell x y) k ws)
      go zero d = rest
      go (suc k) d = (untouched run (record { derived = base + k; window = cell x y }) (λ t. d (omega (arith, t.derived))), rest)

  -- the rows of cells past phase x, and so those of the cells from y on
  pub cells-later : (x : ℕ) (gs : List Gap) (ks : List ℕ) → All (λ (g : Gap). x < g.low) gs
      → All (λ (w : Row). x < w.window.offset) (rows_marked base (map (field_of era) gs) ks)
  cells-later x gs ks h =
      rows_marked-all (λ (f : Window). x < f.offset) base (map (field_of era) gs) ks (all_map (λ (f : Window). x < f.offset) (field_of era) gs h)

  pub rows-later : (x y : ℕ) (l ks : List ℕ) → x < y → Above y l
      → All (λ (w : Row). x < w.window.offset) (rows_marked base (map (field_of era) (gaps_from y l)) ks)
  rows-later x y l ks h s = cells-later x (gaps_from y l) ks (gaps_from-low (suc x) y l h s)

-- fields one after the other
pub marked_append : (base : ℕ) (fs gs : List Window) (ks : List ℕ)
    → rows_marked base (fs ++ gs) ks ≡ rows_marked base fs (take (length fs) ks) ++ rows_marked base gs (drop (length fs) ks)
unfolding rows_marked
marked_append base [] gs ks = refl
marked_append base (f ∷ fs) [] [] = refl
marked_append base (f ∷ fs) (g ∷ gs) [] = refl
marked_append base (f ∷ fs) gs (zero ∷ ks) = marked_append base fs gs ks
marked_append base (f ∷ fs) gs (suc k ∷ ks) = ap (λ (l : List Row). record { derived = base + k; window = f } ∷ l) (marked_append base fs gs ks)

pub era-by-era : (base : ℕ) (e : Gap) (eras cells : List Gap) (ks : List ℕ) → All (λ (g : Gap). e.low < g.low) eras
    → join_rows (rows_marked base (fields_of (e ∷ eras) cells) ks)
    ≡ join_rows (rows_marked base (map (field_of e) cells) (take (length cells) ks)) ++ join_rows (rows_marked base (fields_of eras cells) (drop (length cells) ks))
unfolding fields_of
era-by-era base e eras cells ks h =
    ap join_rows
    (marked_append base (map (field_of e) cells) (fields_of eras cells) ks
    ∙ ap (λ (n : ℕ). rows_marked base (map (field_of e) cells) (take n ks) ++ rows_marked base (fields_of eras cells) (drop n ks)) (length-map cells (field_of e)))
    ∙ join-append {P = λ (v : Row). v.window.begin ≡ e.low} {Q = λ (w : Row). e.low < w.window.begin} (λ v w p q t. omega (arith, t.begin)) _ _
    (rows_marked-all (λ (f : Window). f.begin ≡ e.low) base (map (field_of e) cells) (take (length cells) ks)
    (all_map (λ (f : Window). f.begin ≡ e.low) (field_of e) cells (all-with (λ g u. refl) cells (all-unit cells))))
    (rows_marked-all (λ (f : Window). e.low < f.begin) base (fields_of eras cells) (drop (length cells) ks)
    (fields_of-all (λ (f : Window). e.low < f.begin) (λ d c p q. p) eras cells h (all-unit cells)))
