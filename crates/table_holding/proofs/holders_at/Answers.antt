use Rattle.std.proofs.Common.{arith}
use Rattle.minutes.specs.Believed.Minutes.{E}
use Rattle.table_holding.proofs.HeldLaws.{of-everyone, holders-few}
use Rattle.table_holding.proofs.holders_at.Goals as goal

pub overflow_add-t : goal.overflow_add-t
unfolding E
overflow_add-t c = omega (arith, c.requires)

pub returns : goal.returns
returns c = of-everyone _ (holders-few _ _ c.args.table.now.opened _) c.held_near.ensures.is
