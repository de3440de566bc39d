-- The date of a minute, by where its day lies.
--     minute-year, minute-month    the year of a minute, and its month
--     year-room                    the day of the year lies in the year
--     date-is                      the date, where the year and the month are known
--     date-exists, date-number     that date exists, and gives the minute again
--     clock, day-back              the day and the time of day, and the day of the month, of a date's minute
-- Assumes nothing.
use Prim.Native.Nat.{ℕ, ◌+◌, ◌-◌, ◌/◌, ◌%◌, ◌<◌, ◌≤◌}
use mathlib.Core.Path.{◌≡◌, refl}
use native.Mathlib.Omega.{arith}
use Rattle.minutes.specs.Believed.Minutes.{E}
use Rattle.calendar.specs.declared.Date.{Date}
use Rattle.calendar.specs.Believed.Calendar.{year_start, month_start, day_number, minute_number, year_on, month_on, date_at}
use Rattle.calendar.proofs.StartLaws.{Placed}
use Rattle.calendar.proofs.PeriodLaws.{year-next, month-next, month-end, year-place, month-place, year-is, month-is}
use Rattle.calendar.proofs.ExistsLaws.{Exists, end_is}

pub minute-year : {t k : ℕ} → t < E → k ≡ year_on (t / 1440) → Placed 400 year_start (t / 1440) k
minute-year {t} {k} h e = year-place (t / 1440) (omega (arith, end_is)) k e

pub year-room : {day k : ℕ} → Placed 400 year_start day k → day - year_start k < month_start (2001 + k) 12
year-room {k = k} p = omega (arith, year-next k, month-end (2001 + k))

-- s is where the year starts
pub minute-month : {day k s j : ℕ} → Placed 400 year_start day k → s ≡ year_start k → j ≡ month_on (2001 + k) (day - s)
    → Placed 12 (month_start (2001 + k)) (day - year_start k) j
minute-month {day} {k} {s} {j} p e f = month-place (2001 + k) (day - year_start k) (year-room p) j (rw e at f)

abbrev date_from : ℕ → ℕ → ℕ → ℕ → ℕ → Date
date_from day k j h n =
    record {
      year = 2001 + k;
      month = 1 + j;
      day = 1 + (day - year_start k - month_start (2001 + k) j);
      weekday = day % 7;
      hour = h;
      minute = n;
    }

pub date-is : (t : ℕ) {day k j : ℕ} → t / 1440 ≡ day → Placed 400 year_start day k → Placed 12 (month_start (2001 + k)) (day - year_start k) j
    → date_at t ≡ date_from day k j (t / 60 % 24) (t % 60)
unfolding date_at
date-is t {day} {k} {j} e p q = rw (e, year-is day k p, month-is (2001 + k) (day - year_start k) j q)

module _ (t : ℕ) {k j : ℕ} (p : Placed 400 year_start (t / 1440) k) (q : Placed 12 (month_start (2001 + k)) (t / 1440 - year_start k) j) where
  pub date-exists : let d = date_at t in Exists d.year d.month d.day d.hour d.minute
  date-exists = rw (date-is t refl p q) (omega (arith, month-next (2001 + k) j))

  pub date-number : let d = date_at t in minute_number d.year d.month d.day d.hour d.minute ≡ t
  unfolding minute_number day_number
  date-number =
      let a : 2001 + k - 2001 ≡ k = omega arith in
      let b : 1 + j - 1 ≡ j = omega arith in
      rw (date-is t refl p q, a, b) (omega arith)

pub clock : (y m d h n : ℕ) → h < 24 → n < 60
    → let t = minute_number y m d h n in (t / 1440 ≡ day_number y m d) × (t / 60 % 24 ≡ h) × (t % 60 ≡ n)
unfolding minute_number
clock y m d h n p q = omega arith

pub day-back : (y m d : ℕ) → 1 ≤ d → 1 + (day_number y m d - year_start (y - 2001) - month_start y (m - 1)) ≡ d
unfolding day_number
day-back y m d p = omega arith
