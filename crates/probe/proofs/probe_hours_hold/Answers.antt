use Rattle.std.proofs.Common.{arith}
use Rattle.hours.proofs.JudgeLaws.{accepted-here}
use Rattle.probe.proofs.probe_hours_hold.Goals as goal

pub record_holds-requires : goal.record_holds-requires
record_holds-requires c = let f = accepted-here _ _ _ _ _ c.in-Ok.ensures in (omega (arith, f.0.within), f.1)
