-- The values that eras and cells are cut at.
--     era-values, cell-values                              none is past E; none is past the cycle
--     hours_cuts-length, pair_cuts-length, pairs_cuts-length  how many there are
-- Assumes nothing.
use Prim.Native.Nat.{ℕ, ◌+◌, ◌*◌, ◌≤◌}
use mathlib.Core.Path.{◌≡◌, refl}
use mathlib.Core.List.{List, [], ◌∷◌}
use native.Mathlib.Omega.{arith}
use lib.ListN.{length, length-append}
use Rattle.ground.specs.Believed.Sequence.{All}
use Rattle.ground.proofs.ListLaws.{all_append}
use Rattle.minutes.specs.Believed.Minutes.{E}
use Rattle.hours.specs.Believed.Hours.{Pair, Hours}
use Rattle.hours.specs.HoursWell.{PairsWell, HoursWell, pairs_in}
use Rattle.rota.specs.Believed.Rota.{Rota}
use Rattle.rota.specs.RotaWell.{RotaWell}
use Rattle.rewrite_rules.specs.Believed.Rewriting.{hours_cuts, pair_cuts, pairs_cuts}

-- every value is at most top
abbrev pub Upto : ℕ → List ℕ → Type 0
Upto top l = All (λ (x : ℕ). x ≤ top) l

hours-upto : (c : ℕ) (hs : List Hours) → All (HoursWell c) hs → Upto E (hours_cuts hs)
unfolding hours_cuts
hours-upto c [] w = tt
hours-upto c (h ∷ hs) w = (omega (arith, w.0.ordered, w.0.ends), (w.0.ends, hours-upto c hs w.1))

pair-upto : (c low : ℕ) (ps : List Pair) → PairsWell c low ps → Upto c (pair_cuts ps)
unfolding pair_cuts
pair-upto c low [] w = tt
pair-upto c low (p ∷ ps) w = (omega (arith, w.0.ends), (w.0.ends, pair-upto c (p.offset + p.length + 1) ps w.1))

pairs-upto : (c : ℕ) (hs : List Hours) → All (HoursWell c) hs → Upto c (pairs_cuts hs)
unfolding pairs_cuts
pairs-upto c [] w = tt
pairs-upto c (h ∷ hs) w = all_append _ (pair_cuts h.pairs) (pairs_cuts hs) (pair-upto c 0 h.pairs w.0.pairs) (pairs-upto c hs w.1)

pub era-values : (ρ : Rota) → RotaWell ρ → Upto E (0 ∷ E ∷ hours_cuts ρ.hours)
era-values ρ w = (omega arith, (omega arith, hours-upto ρ.cycle ρ.hours w.hours))

pub cell-values : (ρ : Rota) → RotaWell ρ → Upto ρ.cycle (0 ∷ ρ.cycle ∷ pairs_cuts ρ.hours)
cell-values ρ w = (omega arith, (omega arith, pairs-upto ρ.cycle ρ.hours w.hours))

pub hours_cuts-length : (hs : List Hours) → length (hours_cuts hs) ≡ 2 * length hs
unfolding hours_cuts
hours_cuts-length [] = refl
hours_cuts-length (h ∷ hs) = omega (arith, hours_cuts-length hs)

pub pair_cuts-length : (ps : List Pair) → length (pair_cuts ps) ≡ 2 * length ps
unfolding pair_cuts
pair_cuts-length [] = refl
pair_cuts-length (p ∷ ps) = omega (arith, pair_cuts-length ps)

pub pairs_cuts-length : (hs : List Hours) → length (pairs_cuts hs) ≡ 2 * pairs_in hs
unfolding pairs_cuts pairs_in
pairs_cuts-length [] = refl
pairs_cuts-length (h ∷ hs) = omega (arith, length-append (pair_cuts h.pairs) (pairs_cuts hs), pair_cuts-length h.pairs, pairs_cuts-length hs)
