-- Assumes nothing.
use native.Mathlib.Omega.{arith}
use Rattle.calendar.proofs.FormulaLaws.{formula}
use Rattle.calendar.proofs.year_start.Goals as goal

-- `calendar::year_start` meets its contract: the formula is the leap-year rule, for each year.

pub returns : goal.returns
returns c = omega (arith, formula c.args.k (omega arith))
