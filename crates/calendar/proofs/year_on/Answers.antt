-- Assumes nothing.
use native.Mathlib.Omega.{arith}
use mathlib.Core.Path.{sym}
use Rattle.calendar.proofs.PeriodLaws.{year-end, year-before, year-last, year-stays, year-moves}
use Rattle.calendar.proofs.year_on.Goals as goal

-- `calendar::year_on` meets its contract.

pub year_start-requires : goal.year_start-requires
year_start-requires c = omega (arith, year-end)

pub returns-then-k-ge399 : goal.returns-then-k-ge399
returns-then-k-ge399 c = (sym (year-last c.args.day c.requires c.if-k-ge399.true), c.year_start.ensures)

pub returns-then-next-day : goal.returns-then-next-day
returns-then-next-day c = (sym (year-moves c.args.day c.requires (omega arith)), c.year_start-next.ensures)

pub overflow_sub-result : goal.overflow_sub-result
overflow_sub-result c = (year-before _ _ _ c.year_start-next.ensures c.year_length.ensures).0

pub returns : goal.returns
returns c = (sym (year-stays c.args.day c.requires (omega arith)), (year-before _ _ _ c.year_start-next.ensures c.year_length.ensures).1)
