use mathlib.Core.Path.{◌≡◌}
use mathlib.Core.Bool.{false}
use Prim.Native.Nat.{◌+◌, ◌*◌}
use Rattle.ground.specs.Believed.Search.{any_below}
use Rattle.rota_rows.specs.Rows.{row_out}
use Rattle.rota_rows.proofs.rest_out.Given as goal

abbrev pub invariant-loop-k : goal.invariant-loop-k
invariant-loop-k l = (any_below l.k (λ i. row_out l.top l.roles l.hours l.s (l.at + 3 * i)) ≡ false)
