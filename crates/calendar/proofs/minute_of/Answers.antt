use Rattle.std.proofs.Common.{◌∙◌, sym, ap, arith}
use Rattle.ground.specs.Believed.Judgement.{refuse}
use Rattle.ground.specs.Believed.Outcome.{outcome, given}
use Rattle.calendar.specs.Believed.Calendar.{day_number, minute_number, minute_of}
use Rattle.calendar.proofs.ExistsLaws.{exists-out, day-below}
use Rattle.calendar.proofs.minute_of.Goals as goal

-- `calendar::minute_of` meets its contract: the day number of a date that exists is below 146,097, so nothing wraps.

pub returns-then-not-is_date : goal.returns-then-not-is_date
unfolding minute_of outcome refuse
returns-then-not-is_date c = rw (← c.is_date.ensures, c.if-not-is_date.true)

pub overflow_sub-year : goal.overflow_sub-year
overflow_sub-year c = omega (arith, exists-out (sym c.is_date.ensures ∙ c.if-not-is_date.false))

pub year_start-requires : goal.year_start-requires
year_start-requires c = omega (arith, exists-out (sym c.is_date.ensures ∙ c.if-not-is_date.false))

pub overflow_sub-month : goal.overflow_sub-month
overflow_sub-month c = omega (arith, exists-out (sym c.is_date.ensures ∙ c.if-not-is_date.false))

pub month_start-requires : goal.month_start-requires
month_start-requires c = omega (arith, exists-out (sym c.is_date.ensures ∙ c.if-not-is_date.false))

pub overflow_add-days : goal.overflow_add-days
unfolding day_number
overflow_add-days c = omega (arith, day-below (exists-out (sym c.is_date.ensures ∙ c.if-not-is_date.false)))

pub overflow_sub-days : goal.overflow_sub-days
overflow_sub-days c = omega (arith, exists-out (sym c.is_date.ensures ∙ c.if-not-is_date.false))

pub overflow_add-days-2 : goal.overflow_add-days-2
unfolding day_number
overflow_add-days-2 c = omega (arith, day-below (exists-out (sym c.is_date.ensures ∙ c.if-not-is_date.false)))

pub overflow_mul-result : goal.overflow_mul-result
unfolding day_number
overflow_mul-result c = omega (arith, day-below (exists-out (sym c.is_date.ensures ∙ c.if-not-is_date.false)))

pub overflow_mul-result-2 : goal.overflow_mul-result-2
overflow_mul-result-2 c = omega (arith, exists-out (sym c.is_date.ensures ∙ c.if-not-is_date.false))

pub overflow_add-result : goal.overflow_add-result
unfolding day_number
overflow_add-result c = let x = exists-out (sym c.is_date.ensures ∙ c.if-not-is_date.false) in omega (arith, day-below x)

pub overflow_add-result-2 : goal.overflow_add-result-2
unfolding day_number
overflow_add-result-2 c = let x = exists-out (sym c.is_date.ensures ∙ c.if-not-is_date.false) in omega (arith, day-below x)

pub returns : goal.returns
unfolding day_number minute_number minute_of outcome refuse
returns c = rw (← c.is_date.ensures, c.if-not-is_date.false) (ap given (omega arith))
