-- The eras, the cells and the fields of a rota that keeps the layout: each in its range, in order, and how many there are.
--     era-cuts-few, cell-cuts-few, eras-few, cells-few, fields-few    at most 66 and 514 values, 65 eras, 513 cells, 33,345 fields
--     fields_of-length, fields-well, fields-ordered                    how many fields; each field in its range, and each after those before it
-- Assumes nothing.
use Rattle.ground.proofs.ListLaws.{all_append, all_map, all-with, Pairwise, pairwise_append, pairwise-with, pairwise_map}
use Prim.Native.Nat.{ℕ, ◌+◌, ◌*◌, ◌≤◌, ◌<◌}
use mathlib.Core.Path.{◌≡◌, refl}
use mathlib.Core.Logic.{◌⊎◌, inl, inr}
use mathlib.Core.List.{List, [], ◌∷◌, map}
use native.Mathlib.Nat.{mul-le-mul_right, mul-le-mul_left}
use native.Mathlib.Omega.{arith}
use lib.ListN.{length, length-append, length-map}
use Rattle.ground.specs.Believed.Sequence.{All}
use Rattle.minutes.specs.Believed.Minutes.{E, Window}
use Rattle.rota.specs.Believed.Rota.{Rota}
use Rattle.rota.specs.RotaWell.{RotaWell}
use Rattle.rewrite_rules.specs.Believed.Cuts.{Gap, gaps}
use Rattle.rewrite_rules.specs.Believed.Rewriting.{hours_cuts, pairs_cuts, era_cuts, cell_cuts, field_of, fields_of, fields}
use Rattle.rewrite_rules.proofs.CutLaws.{Sorted, sort_sorted}
use Rattle.rewrite_rules.proofs.ValueLaws.{era-values, cell-values, hours_cuts-length, pairs_cuts-length}
use Rattle.rewrite_rules.proofs.TableCuts.{sort-all, sort-length, Fits, Apart, gaps-fit, gaps-apart, gaps-length}

-- a field is not empty, ends by E and lies in the cycle
pub record FieldWell (c : ℕ) (f : Window) : Type 0 where
  pub ordered : f.begin < f.end
  pub ends : f.end ≤ E
  pub some-length : 0 < f.length
  pub in-cycle : f.offset + f.length ≤ c

-- field g comes after field f: later in the same era, or in a later era
abbrev pub Before : Window → Window → Type 0
Before f g = ((f.begin ≡ g.begin) × (f.end ≡ g.end) × (f.offset + f.length ≤ g.offset)) ⊎ (f.end ≤ g.begin)

-- what holds of all fields, from what holds of all eras and of all cells
pub fields_of-all : {P Q : Gap → Type 0} (R : Window → Type 0) → ((e c : Gap) → P e → Q c → R (field_of e c))
    → (es cs : List Gap) → All P es → All Q cs → All R (fields_of es cs)
unfolding fields_of
fields_of-all R h [] cs p q = tt
fields_of-all R h (e ∷ es) cs p q =
    all_append R (map (field_of e) cs) (fields_of es cs) (all_map R (field_of e) cs (all-with (λ c k. h e c p.0 k) cs q)) (fields_of-all R h es cs p.1 q)

fields_of-ordered : (top : ℕ) (es cs : List Gap) → Pairwise Apart es → Pairwise Apart cs → All (Fits top) cs → Pairwise Before (fields_of es cs)
unfolding fields_of
fields_of-ordered top [] cs p q fit = tt
fields_of-ordered top (e ∷ es) cs p q fit =
    pairwise_append Before (map (field_of e) cs) (fields_of es cs)
    (pairwise_map Before (field_of e) cs (pairwise-with (λ x y a b h. inl (refl, refl, omega (arith, a.0))) cs fit q))
    (fields_of-ordered top es cs p.1 q fit)
    (all_map (λ (f : Window). All (Before f) (fields_of es cs)) (field_of e) cs
    (all-with (λ x a. fields_of-all (Before (field_of e x)) (λ d c h k. inr h) es cs p.0 fit) cs fit))

pub fields_of-length : (es cs : List Gap) → length (fields_of es cs) ≡ length es * length cs
unfolding fields_of
fields_of-length [] cs = omega arith
fields_of-length (e ∷ es) cs =
    omega (arith, length-append (map (field_of e) cs) (fields_of es cs), length-map cs (field_of e), fields_of-length es cs)

module _ (ρ : Rota) (w : RotaWell ρ) where
  pub era-cuts-few : length (era_cuts ρ) ≤ 66
  unfolding era_cuts
  era-cuts-few = omega (arith, sort-length [] (0 ∷ E ∷ hours_cuts ρ.hours), hours_cuts-length ρ.hours, w.hours-most)

  pub cell-cuts-few : length (cell_cuts ρ) ≤ 514
  unfolding cell_cuts
  cell-cuts-few = omega (arith, sort-length [] (0 ∷ ρ.cycle ∷ pairs_cuts ρ.hours), pairs_cuts-length ρ.hours, w.pairs-most)

  pub eras-few : length (gaps (era_cuts ρ)) ≤ 65
  eras-few = omega (arith, gaps-length (era_cuts ρ), era-cuts-few)

  pub cells-few : length (gaps (cell_cuts ρ)) ≤ 513
  cells-few = omega (arith, gaps-length (cell_cuts ρ), cell-cuts-few)

  pub fields-few : length (fields ρ) ≤ 33345
  unfolding fields
  fields-few =
      omega (
        arith,
        fields_of-length (gaps (era_cuts ρ)) (gaps (cell_cuts ρ)),
        mul-le-mul_right (length (gaps (cell_cuts ρ))) eras-few,
        mul-le-mul_left 65 cells-few,
      )

  eras-rise : Sorted (era_cuts ρ)
  unfolding era_cuts
  eras-rise = sort_sorted [] _ tt

  cells-rise : Sorted (cell_cuts ρ)
  unfolding cell_cuts
  cells-rise = sort_sorted [] _ tt

  eras-fit : All (Fits E) (gaps (era_cuts ρ))
  unfolding era_cuts
  eras-fit = gaps-fit E _ eras-rise (sort-all (λ (x : ℕ). x ≤ E) [] _ tt (era-values ρ w))

  cells_fit : All (Fits ρ.cycle) (gaps (cell_cuts ρ))
  unfolding cell_cuts
  cells_fit = gaps-fit ρ.cycle _ cells-rise (sort-all (λ (x : ℕ). x ≤ ρ.cycle) [] _ tt (cell-values ρ w))

  pub fields-well : All (FieldWell ρ.cycle) (fields ρ)
  unfolding fields
  fields-well =
      fields_of-all (FieldWell ρ.cycle)
      (λ e c p q. record { ordered = p.0; ends = p.1; some-length = omega (arith, q.0); in-cycle = omega (arith, q.0, q.1) })
      (gaps (era_cuts ρ)) (gaps (cell_cuts ρ)) eras-fit cells_fit

  pub fields-ordered : Pairwise Before (fields ρ)
  unfolding fields
  fields-ordered =
      fields_of-ordered ρ.cycle (gaps (era_cuts ρ)) (gaps (cell_cuts ρ)) (gaps-apart (era_cuts ρ) eras-rise) (gaps-apart (cell_cuts ρ) cells-rise) cells_fit
