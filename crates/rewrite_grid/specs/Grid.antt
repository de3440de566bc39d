-- The eras, the cells and the field masks of a rota's bytes, as the code lays them out in arrays.
use Rattle.std.specs.Prelude.{ℕ, ◌+◌, ◌≤◌, ◌<◌, ◌≡◌, Bool, List, map, ltb, length, get_or, take}
use Rattle.ground.specs.Believed.Choice.{pick}
use Rattle.ground.specs.Believed.Sequence.{list_of}
use Rattle.bitset.specs.Believed.Sets.{insert, intersection}
use Rattle.minutes.specs.Believed.Minutes.{E}
use Rattle.minutes.specs.First.{first_in}
use Rattle.hours.specs.Inside.{pairs_hold, records_that}
use Rattle.rota.specs.Believed.RotaBytes.{header_length, cycle_of, hours_of, rota_of}
use Rattle.rota.specs.Believed.RotaRefusals.{rota_judged}
use Rattle.rewrite_rules.specs.Believed.Cuts.{Gap, gaps}
use Rattle.rewrite_rules.specs.Believed.Rewriting.{era_cuts, cell_cuts, fields_of}
use Rattle.rewrite_rules.specs.Masks.{mask_of}
use Rattle.rewrite_grid.specs.declared.Division.{Division}

-- the mask of the field with the era from b to e and the cell from o to f, by the records whose dates hold in the era and those whose pairs hold
-- in the cell
unfoldable pub field_mask : ℕ → ℕ → ℕ → ℕ → ℕ → ℕ → ℕ → ℕ
field_mask c dates pairs b e o f = pick (ltb (first_in c b o f) e) (insert (intersection dates pairs) 32) 0

-- neighbours in an array
abbrev pub gap_at : List ℕ → ℕ → Gap
gap_at l k = record { low = get_or l k 0; high = get_or l (k + 1) 0 }

-- each of the first n values of an array is less than the next
abbrev pub Rise : List ℕ → ℕ → Type 0
Rise l n = (k : ℕ) → k < n → get_or l k 0 < get_or l (k + 1) 0

-- for each of the first n cells, the records whose pairs hold in it
pub record InCells (s : List ℕ) (h : ℕ) (cells : List ℕ) (n : ℕ) (pairs : List ℕ) : Type 0 where
  pub each : (j : ℕ) → j < n → get_or pairs j 0 ≡ records_that s (header_length s) h (pairs_hold (get_or cells j 0))

-- of the sets of the first n cells, those of a cell whose low end passes the test have k as a member too, and the others are as they were
pub record Joined (cells : List ℕ) (n k : ℕ) (test : ℕ → Bool) (before after : List ℕ) : Type 0 where
  pub each : (j : ℕ) → j < n → get_or after j 0 ≡ pick (test (get_or cells j 0)) (insert (get_or before j 0) k) (get_or before j 0)

-- the mask in cell j of the era from b to e
unfoldable pub mask_in : ℕ → ℕ → ℕ → ℕ → List ℕ → List ℕ → ℕ → ℕ
mask_in c dates b e cells pairs j = field_mask c dates (get_or pairs j 0) b e (get_or cells j 0) (get_or cells (j + 1) 0)

-- the first n + 1 values of an array are the cuts l, in order and at most `top`
pub record Cuts (l a : List ℕ) (n top : ℕ) : Type 0 where
  pub are : take (n + 1) a ≡ l
  pub long : n < length a
  pub rise : Rise a n
  pub most : (k : ℕ) → k ≤ n → get_or a k 0 ≤ top

-- what the masks are made from: the cuts of an accepted rota, and for each cell the records whose pairs hold in it
pub record Ready (s : List ℕ) (c from h : ℕ) (eras : List ℕ) (ne : ℕ) (cells : List ℕ) (nc : ℕ) (pairs : List ℕ) : Type 0 where
  pub accepted : rota_judged s ≡ 0
  pub cycle-is : c ≡ cycle_of s
  pub from_is : from ≡ header_length s
  pub hours-are : h ≡ hours_of s
  pub era-cuts : Cuts (era_cuts (rota_of s)) eras ne E
  pub cell_cuts : Cuts (cell_cuts (rota_of s)) cells nc (cycle_of s)
  pub in_cells : InCells s h cells nc pairs
  pub pairs-long : nc ≤ length pairs

-- the masks of the fields of the first i eras
unfoldable pub masks_to : List ℕ → List ℕ → ℕ → List ℕ
masks_to s eras i = map (mask_of (rota_of s)) (fields_of (list_of i (gap_at eras)) (gaps (cell_cuts (rota_of s))))

-- arrays with the cuts of a rota's eras and of its cells
pub record Parted (s eras : List ℕ) (ne : ℕ) (cells : List ℕ) (nc : ℕ) : Type 0 where
  pub few-eras : ne ≤ 65
  pub few-cells : nc ≤ 513
  pub era-cuts : Cuts (era_cuts (rota_of s)) eras ne E
  pub cell_cuts : Cuts (cell_cuts (rota_of s)) cells nc (cycle_of s)

-- the division has them
abbrev pub Divided : List ℕ → Division → Type 0
Divided s d = Parted s d.eras d.era_count d.cells d.cell_count
