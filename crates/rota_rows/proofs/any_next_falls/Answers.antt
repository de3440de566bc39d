-- Blocks of sixteen rows, and the rows left over, are all rows that one comes before.
use Prim.Native.Nat.{◌-◌, ◌/◌}
use mathlib.Core.Path.{◌≡◌, sym, ◌∙◌}
use native.Mathlib.Omega.{arith}
use Rattle.ground.proofs.SearchLaws.{any_none}
use Rattle.rota_rows.proofs.FallLaws.{rest-falls, rest-ascends}
use Rattle.rota_rows.proofs.any_next_falls.Goals as goal

pub returns-then-n-lt2 : goal.returns-then-n-lt2
returns-then-n-lt2 c = let z : c.args.n - 1 ≡ 0 = omega arith in rw z (sym (any_none _))

pub returns-then-rest_falls : goal.returns-then-rest_falls
returns-then-rest_falls c =
    let a = c.args in
    sym (rest-falls _ a.at a.n ((a.n - 2) / 16) (omega arith) (sym c.rest_falls.ensures ∙ c.if-rest_falls.true))

pub returns : goal.returns
returns c =
    let a = c.args in
    c.blocks_fall.ensures
    ∙ sym (rest-ascends _ a.at a.n ((a.n - 2) / 16) (omega arith) (sym c.rest_falls.ensures ∙ c.if-rest_falls.false))
