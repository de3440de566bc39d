use Rattle.machine.proofs.CoreLaws.{moved_as}
use Rattle.machine.proofs.moved.Goals as goal

pub returns : goal.returns
returns c = moved_as _ _ _ _ c.count_lost-closed.ensures
