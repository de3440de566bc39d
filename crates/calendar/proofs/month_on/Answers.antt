-- Assumes nothing.
use native.Mathlib.Omega.{arith}
use mathlib.Core.Path.{sym}
use Rattle.calendar.proofs.PeriodLaws.{month-below, month-stays, month-moves}
use Rattle.calendar.proofs.month_on.Goals as goal

-- `calendar::month_on` meets its contract.

pub month_start-requires : goal.month_start-requires
month_start-requires c = omega (arith, month-below c.args.year c.args.n c.requires)

pub returns-then-month_start-n : goal.returns-then-month_start-n
returns-then-month_start-n c = sym (month-moves c.args.year c.args.n c.requires (omega arith))

pub returns-else-month_start-n : goal.returns-else-month_start-n
returns-else-month_start-n c = sym (month-stays c.args.year c.args.n c.requires (omega arith))
