use mathlib.Core.Path.{◌≡◌}
use mathlib.Core.Bool.{false}
use Prim.Native.Nat.{◌+◌, ◌*◌}
use Rattle.ground.specs.Believed.Search.{any_below}
use Rattle.rota_rows.specs.Rows.{next_falls}
use Rattle.rota_rows.proofs.blocks_fall.Given as goal

abbrev pub invariant-loop-i : goal.invariant-loop-i
invariant-loop-i l = (any_below l.i (λ j. any_below 16 (λ k. next_falls l.s (l.at + 48 * j + 3 * k))) ≡ false)
