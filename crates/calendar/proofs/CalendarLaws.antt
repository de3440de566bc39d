-- What the calendar promises, as theorems over its definitions.
--     there, there_and_back, given_back    the fields of a minute's date exist, and they give that minute
--     back, back-and-there                 a date that exists has a minute below E, and is the date of that minute
--     weekday-is                           the weekday is the day number's remainder by 7, day 0 being a Monday
--     leap-day, leap-day-date              29 February 2004, 00:00, is minute 1,661,760, a Sunday
--     last-minute-date                     the last minute is 23:59 on 31 December 2400, a Sunday
-- Assumes nothing.
use Prim.Native.Nat.{ℕ, ◌+◌, ◌-◌, ◌/◌, ◌%◌, ◌<◌}
use mathlib.Core.Path.{◌≡◌, refl, ◌∙◌}
use mathlib.Core.Bool.{true}
use native.Mathlib.Omega.{arith}
use Rattle.ground.specs.Believed.Judgement.{refuse}
use Rattle.ground.specs.Believed.Outcome.{outcome, given}
use Rattle.minutes.specs.Believed.Minutes.{E}
use Rattle.calendar.specs.Believed.Calendar.{leap, year_length, month_length, year_start, month_start, day_number, minute_number, exists, minute_of, date_at}
use Rattle.calendar.proofs.ExistsLaws.{exists-in, exists-out, date-year, date-month, number-below}
use Rattle.calendar.proofs.DateLaws.{minute-year, minute-month, date-is, date-exists, date-number, clock, day-back}

-- There and back.
module _ (t : ℕ) (h : t < E) where
  pub there : let d = date_at t in exists d.year d.month d.day d.hour d.minute ≡ true
  there = let p = minute-year h refl in exists-in (date-exists t p (minute-month p refl refl))

  pub there_and_back : let d = date_at t in minute_number d.year d.month d.day d.hour d.minute ≡ t
  there_and_back = let p = minute-year h refl in date-number t p (minute-month p refl refl)

  pub given_back : let d = date_at t in minute_of d.year d.month d.day d.hour d.minute ≡ given t
  unfolding minute_of refuse outcome
  given_back = rw (there, there_and_back)

-- Back and there.
module _ (y m d h n : ℕ) (e : exists y m d h n ≡ true) where
  pub back : minute_number y m d h n < E
  back = number-below (exists-out e)

  pub back-and-there : date_at (minute_number y m d h n)
      ≡ record { year = y; month = m; day = d; weekday = day_number y m d % 7; hour = h; minute = n }
  back-and-there =
      let x = exists-out e in
      let c = clock y m d h n x.hour x.minute in
      let a : 2001 + (y - 2001) ≡ y = omega arith in
      let b : 1 + (m - 1) ≡ m = omega arith in
      date-is (minute_number y m d h n) {j = m - 1} c.0 (date-year x) (rw a (date-month x))
      ∙ rw (a, b, day-back y m d x.first-day, c.1, c.2)

pub weekday-is : (t : ℕ) → (date_at t).weekday ≡ t / 1440 % 7
unfolding date_at
weekday-is t = refl

pub leap-day : minute_of 2004 2 29 0 0 ≡ given 1661760
unfolding minute_of refuse outcome exists minute_number day_number year_start year_length month_start month_length leap
leap-day = refl

pub leap-day-date : date_at 1661760 ≡ record { year = 2004; month = 2; day = 29; weekday = 6; hour = 0; minute = 0 }
unfolding exists minute_number day_number year_start year_length month_start month_length leap
leap-day-date = back-and-there 2004 2 29 0 0 refl

pub last-minute-date : date_at 210379679 ≡ record { year = 2400; month = 12; day = 31; weekday = 6; hour = 23; minute = 59 }
unfolding exists minute_number day_number year_start year_length month_start month_length leap
last-minute-date = back-and-there 2400 12 31 23 59 refl
