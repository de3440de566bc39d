-- Whether the row after one so far is not above it, as a number: 1 once one is not.
use Rattle.std.proofs.Common.{◌≡◌, sym, ap, ◌∙◌, arith}
use Rattle.ground.proofs.SearchLaws.{any_none}
use Rattle.ground.specs.Believed.Search.{one}
use Rattle.rota_rows.proofs.FallLaws.{counted, counted-one, counted-rows}
use Rattle.rota_rows.proofs.ScanLaws.{joins, joined-some}
use Rattle.rota_rows.proofs.block_falls.Goals as goal

pub loop-i-init : goal.loop-i-init
loop-i-init c = ap one (sym (any_none _))

pub loop-i-preserved : goal.loop-i-preserved
loop-i-preserved c =
    let l = c.loop-i in
    joins (counted c.args.counts.now c.args.s.now c.args.at) l.i _ _ l.invariant (counted-one _ c.requires.1 _ _ _ _ (omega arith) c.next_falls.ensures)

pub returns : goal.returns
returns c =
    let l = c.loop-i in
    let e : l.i ≡ 48 = omega arith in
    rw (← e) (joined-some _ _ l.invariant) ∙ counted-rows _ c.requires.1 _ _
