-- Whether a byte so far lies in its range, as a number: 1 once one does.
use Rattle.std.proofs.Common.{sym, ap}
use Rattle.ground.proofs.SearchLaws.{any_none}
use Rattle.ground.specs.Believed.Search.{one}
use Rattle.rota_rows.proofs.ScanLaws.{joins}
use Rattle.rota_rows.specs.Rows.{byte_out}
use Rattle.rota_rows.proofs.block_out.Goals as goal

pub loop-j-init : goal.loop-j-init
loop-j-init c = ap one (sym (any_none _))

pub loop-j-preserved : goal.loop-j-preserved
unfolding byte_out
loop-j-preserved c =
    let a = c.args in
    joins (byte_out a.low.now a.high.now a.s.now a.at) c.loop-j.j _ _ c.loop-j.invariant c.between-out.ensures
