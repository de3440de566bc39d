use Rattle.std.proofs.Common.{arith}
use Rattle.minutes.specs.Believed.Minutes.{E}
use Rattle.probe.proofs.holders_at.Goals as goal

pub holders_at-requires : goal.holders_at-requires
unfolding E
holders_at-requires c = omega (arith, c.if-t-ge-END.false)
