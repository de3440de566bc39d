-- The place of the row before is kept.
use mathlib.Core.Path.{◌≡◌}
use mathlib.Core.Bool.{false}
use Prim.Native.Nat.{◌+◌, ◌*◌}
use Rattle.ground.specs.Believed.Search.{any_below}
use Rattle.rota_rows.specs.Rows.{place_at, next_falls}
use Rattle.rota_rows.proofs.rest_falls.Given as goal

abbrev pub invariant-loop-k : goal.invariant-loop-k
invariant-loop-k l = (l.last ≡ place_at l.s (l.at + 3 * l.k)) × (any_below l.k (λ i. next_falls l.s (l.at + 3 * i)) ≡ false)
