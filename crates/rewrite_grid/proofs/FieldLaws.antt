-- On a field the hours that hold do not change: a record holds there when its dates hold at the era's begin and its pairs at the cell's low end.
--     holds-split                           hours by their dates and their pairs
-- Assumes nothing.
use Prim.Native.Nat.{ℕ, ◌%◌}
use mathlib.Core.Path.{◌≡◌, ap₂, ◌∙◌}
use mathlib.Core.Bool.{◌&&◌}
use mathlib.Core.List.{Memᴰ}
use native.Mathlib.Nat.{le_refl}
use native.Mathlib.Omega.{arith}
use lib.ListN.{get_or}
use Rattle.hours.specs.Believed.Hours.{holds, never}
use Rattle.hours.specs.Inside.{dates_hold, pairs_hold}
use Rattle.hours.proofs.HoldsLaws.{holds_parts}
use Rattle.rota.specs.Believed.Rota.{Rota}
use Rattle.rewrite_rules.specs.Believed.Cuts.{Gap, gaps}
use Rattle.rewrite_rules.specs.Believed.Rewriting.{era_cuts, cell_cuts}
use Rattle.rewrite_rules.proofs.CutLaws.{Inside}
use Rattle.rewrite_rules.proofs.ConstancyLaws.{dates-alike, pairs-alike}

pub holds-split : (ρ : Rota) (era cell : Gap) → Memᴰ era (gaps (era_cuts ρ)) → Memᴰ cell (gaps (cell_cuts ρ)) → (t : ℕ) → Inside era t
    → Inside cell (t % ρ.cycle) → (k : ℕ)
    → holds ρ.cycle (get_or ρ.hours k never) t ≡ (dates_hold era.low (get_or ρ.hours k never) && pairs_hold cell.low (get_or ρ.hours k never))
holds-split ρ era cell m n t a b k =
    holds_parts _ _ t
    ∙ ap₂ ◌&&◌ (dates-alike ρ era m k t era.low a (le_refl era.low, omega (arith, a.0, a.1)))
    (pairs-alike ρ cell n k (t % ρ.cycle) cell.low b (le_refl cell.low, omega (arith, b.0, b.1)))
