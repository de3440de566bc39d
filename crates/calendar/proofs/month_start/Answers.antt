-- Assumes nothing.
use mathlib.Core.Path.{sym, ◌∙◌}
use native.Mathlib.Omega.{arith}
use Rattle.calendar.proofs.PeriodLaws.{common-year, leap-year, leap-room}
use Rattle.calendar.proofs.month_start.Goals as goal

-- `calendar::month_start` meets its contract.

pub overflow_add-leap : goal.overflow_add-leap
overflow_add-leap c = record { fits = omega (arith, leap-room c.args.j c.requires, c.common_start-common.ensures) }

pub returns-then-is_leap : goal.returns-then-is_leap
returns-then-is_leap c =
    let a = c.args in
    omega (arith, leap-year a.year (sym c.is_leap.ensures ∙ c.if-is_leap.true) a.j, c.common_start-common.ensures)

pub returns-else-is_leap : goal.returns-else-is_leap
returns-else-is_leap c =
    let a = c.args in
    omega (arith, common-year a.year (sym c.is_leap.ensures ∙ c.if-is_leap.false) a.j, c.common_start-common.ensures)
