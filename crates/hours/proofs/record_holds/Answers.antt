use mathlib.Core.Path.{◌∙◌}
use Rattle.hours.proofs.HoldsLaws.{holds-in, holds-out}
use Rattle.hours.proofs.record_holds.Goals as goal

pub returns-then-dates_hold : goal.returns-then-dates_hold
returns-then-dates_hold c = holds-in _ _ _ _ c.dates_hold.ensures c.if-dates_hold.true _ _ c.phase.ensures c.pairs_hold.ensures

pub returns-else-dates_hold : goal.returns-else-dates_hold
returns-else-dates_hold c = c.if-dates_hold.false ∙ holds-out _ _ _ _ c.dates_hold.ensures c.if-dates_hold.false
