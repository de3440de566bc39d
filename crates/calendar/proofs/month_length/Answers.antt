-- Assumes nothing.
use native.Mathlib.Omega.{arith}
use Rattle.calendar.proofs.PeriodLaws.{month-gap}
use Rattle.calendar.proofs.month_length.Goals as goal

-- `calendar::month_length` meets its contract.

pub overflow_sub-result : goal.overflow_sub-result
overflow_sub-result c = let a = c.args in omega (arith, month-gap a.year a.month c.requires.0)

pub returns : goal.returns
returns c = let a = c.args in omega (arith, month-gap a.year a.month c.requires.0)
