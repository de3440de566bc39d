-- Assumes nothing.
use mathlib.Core.Path.{refl, sym}
use native.Mathlib.Omega.{arith}
use Rattle.calendar.proofs.ExistsLaws.{end_is}
use Rattle.calendar.proofs.DateLaws.{minute-year, minute-month, year-room, date-is}
use Rattle.calendar.proofs.date_at.Goals as goal

-- `calendar::date_at` meets its contract: the day lies in the year found, and the day of the year in the month found.

pub year_on-y-requires : goal.year_on-y-requires
year_on-y-requires c = omega (arith, end_is)

pub overflow_add-year : goal.overflow_add-year
overflow_add-year c = omega (arith, minute-year c.requires c.year_on-y.ensures.0)

pub overflow_sub-n : goal.overflow_sub-n
overflow_sub-n c = omega (arith, minute-year c.requires c.year_on-y.ensures.0, c.year_on-y.ensures.1)

pub month_on-j-requires : goal.month_on-j-requires
month_on-j-requires c = omega (arith, year-room (minute-year c.requires c.year_on-y.ensures.0), c.year_on-y.ensures.1)

pub overflow_add-result : goal.overflow_add-result
overflow_add-result c = omega (arith, minute-month (minute-year c.requires c.year_on-y.ensures.0) c.year_on-y.ensures.1 c.month_on-j.ensures)

pub month_start-requires : goal.month_start-requires
month_start-requires c = omega (arith, minute-month (minute-year c.requires c.year_on-y.ensures.0) c.year_on-y.ensures.1 c.month_on-j.ensures)

pub overflow_sub-result : goal.overflow_sub-result
overflow_sub-result c = omega (arith, minute-month (minute-year c.requires c.year_on-y.ensures.0) c.year_on-y.ensures.1 c.month_on-j.ensures, c.year_on-y.ensures.1)

pub returns : goal.returns
returns c =
    let p = minute-year c.requires c.year_on-y.ensures.0 in
    let q = minute-month (minute-year c.requires c.year_on-y.ensures.0) c.year_on-y.ensures.1 c.month_on-j.ensures in
    rw (c.year_on-y.ensures.1, c.month_start.ensures) (sym (date-is c.args.t refl p q))
