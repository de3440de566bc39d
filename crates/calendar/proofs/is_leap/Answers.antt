use Rattle.std.proofs.Common.{◌%◌, arith, eq-eqb}
use borrow.Author.Tests.{ne_eqb}
use Rattle.calendar.specs.Believed.Calendar.{leap}
use Rattle.calendar.proofs.is_leap.Goals as goal

-- `calendar::is_leap` meets its contract.

pub returns-then-year-ne0 : goal.returns-then-year-ne0
unfolding leap
returns-then-year-ne0 c = simp (eq-eqb _ _ c.if-year-eq0.true, ne_eqb _ _ c.if-year-ne0.true)

pub returns-else-year-ne0 : goal.returns-else-year-ne0
unfolding leap
returns-else-year-ne0 c = simp (eq-eqb _ _ c.if-year-eq0.true, eq-eqb _ _ c.if-year-ne0.false)

pub returns-else-year-eq0 : goal.returns-else-year-eq0
unfolding leap
returns-else-year-eq0 c =
    let y = c.args.year in
    simp (ne_eqb (y % 4) 0 c.if-year-eq0.false, ne_eqb (y % 400) 0 (omega arith))
