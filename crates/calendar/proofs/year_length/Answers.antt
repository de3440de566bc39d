use mathlib.Core.Path.{refl}
use Rattle.calendar.specs.Believed.Calendar.{year_length}
use Rattle.calendar.proofs.year_length.Goals as goal

pub returns-then-is_leap : goal.returns-then-is_leap
unfolding year_length
returns-then-is_leap c = rw (← c.is_leap.ensures, c.if-is_leap.true) refl

pub returns-else-is_leap : goal.returns-else-is_leap
unfolding year_length
returns-else-is_leap c = rw (← c.is_leap.ensures, c.if-is_leap.false) refl
