-- Whether the row after one so far is not above it, as a number: 1 once one is not.
use mathlib.Core.Path.{◌≡◌}
use Rattle.ground.specs.Believed.Search.{any_below, one}
use Rattle.rota_rows.proofs.FallLaws.{counted}
use Rattle.rota_rows.proofs.block_falls.Given as goal

abbrev pub invariant-loop-i : goal.invariant-loop-i
invariant-loop-i l = (l.out ≡ one (any_below l.i (counted l.counts l.s l.at)))
