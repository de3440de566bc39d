use Rattle.hours.proofs.HoldsLaws.{dates-are}
use Rattle.hours.proofs.dates_hold.Goals as goal

pub returns : goal.returns
returns c = dates-are _ _ _ _ _ _ c.read32.ensures c.read32-2.ensures c.during.ensures
