use Rattle.std.proofs.Common.{eqb-true}
use Rattle.table_holding.proofs.HeldLaws.{went_on}
use Rattle.table_holding.proofs.goes_on.Goals as goal

pub returns : goal.returns
returns c =
    λ h. went_on _ _ _ _ _ _ _ c.window-w.ensures c.if-w-stop.false c.if-t-w.false c.if-w-era.false _ _ c.users.ensures c.lost.ensures (eqb-true c.lost.result 0 h)
