-- Assumes nothing.
use mathlib.Core.Path.{refl}
use Rattle.calendar.specs.Believed.Calendar.{leap, month_length, month_start}
use Rattle.calendar.proofs.tables.common_start.Goals as goal

-- `calendar::tables::common_start` meets its contract: antt computes each number by the rule.

pub returns-in-0 : goal.returns-in-0
unfolding leap month_length month_start
returns-in-0 c = rw c.in-0.is refl

pub returns-in-1 : goal.returns-in-1
unfolding leap month_length month_start
returns-in-1 c = rw c.in-1.is refl

pub returns-in-2 : goal.returns-in-2
unfolding leap month_length month_start
returns-in-2 c = rw c.in-2.is refl

pub returns-in-3 : goal.returns-in-3
unfolding leap month_length month_start
returns-in-3 c = rw c.in-3.is refl

pub returns-in-4 : goal.returns-in-4
unfolding leap month_length month_start
returns-in-4 c = rw c.in-4.is refl

pub returns-in-5 : goal.returns-in-5
unfolding leap month_length month_start
returns-in-5 c = rw c.in-5.is refl

pub returns-in-6 : goal.returns-in-6
unfolding leap month_length month_start
returns-in-6 c = rw c.in-6.is refl

pub returns-in-7 : goal.returns-in-7
unfolding leap month_length month_start
returns-in-7 c = rw c.in-7.is refl

pub returns-in-8 : goal.returns-in-8
unfolding leap month_length month_start
returns-in-8 c = rw c.in-8.is refl

pub returns-in-9 : goal.returns-in-9
unfolding leap month_length month_start
returns-in-9 c = rw c.in-9.is refl

pub returns-in-10 : goal.returns-in-10
unfolding leap month_length month_start
returns-in-10 c = rw c.in-10.is refl

pub returns-in-11 : goal.returns-in-11
unfolding leap month_length month_start
returns-in-11 c = rw c.in-11.is refl

pub returns-in-12 : goal.returns-in-12
unfolding leap month_length month_start
returns-in-12 c = rw c.in-12.is refl
