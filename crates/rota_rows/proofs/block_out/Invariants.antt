-- Whether a byte so far lies in its range, as a number: 1 once one does.
use mathlib.Core.Path.{◌≡◌}
use Rattle.ground.specs.Believed.Search.{any_below, one}
use Rattle.rota_rows.specs.Rows.{byte_out}
use Rattle.rota_rows.proofs.block_out.Given as goal

abbrev pub invariant-loop-j : goal.invariant-loop-j
invariant-loop-j l = (l.out ≡ one (any_below l.j (byte_out l.low l.high l.s l.at)))
