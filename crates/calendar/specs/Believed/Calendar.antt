-- The calendar (document 01, "Calendar and listing"; refusals 33 and 50). Minute 0 is 00:00 on Monday 1 January 2001.
use Rattle.std.specs.Prelude.{ℕ, zero, suc, ◌+◌, ◌-◌, ◌*◌, ◌/◌, ◌%◌, Bool, not, ◌&&◌, ◌||◌, [], ◌∷◌, leb, ltb, eqb, get_or}
use Rattle.ground.specs.Believed.Choice.{pick}
use Rattle.ground.specs.Believed.Judgement.{refuse}
use Rattle.ground.specs.Believed.Outcome.{Outcome, outcome}
use Rattle.ground.specs.Believed.Search.{highest_below}
use Rattle.minutes.specs.Believed.Minutes.{E}
use Rattle.calendar.specs.declared.Date.{Date}

-- the rule of the Gregorian leap years
unfoldable pub leap : ℕ → Bool
leap y = (eqb (y % 4) 0 && not (eqb (y % 100) 0)) || eqb (y % 400) 0

unfoldable pub year_length : ℕ → ℕ
year_length y = pick (leap y) 366 365

-- the days of month m, 1 to 12, of year y
unfoldable pub month_length : ℕ → ℕ → ℕ
month_length y m =
    get_or (31 ∷ pick (leap y) 29 28 ∷ 31 ∷ 30 ∷ 31 ∷ 30 ∷ 31 ∷ 31 ∷ 30 ∷ 31 ∷ 30 ∷ 31 ∷ []) (m - 1) 0

-- the day number of 1 January of year 2001 + k, counted from day 0
unfoldable pub year_start : ℕ → ℕ
year_start zero = 0
year_start (suc k) = year_start k + year_length (2001 + k)

-- the days of year y before the first of month 1 + j
unfoldable pub month_start : ℕ → ℕ → ℕ
month_start y zero = 0
month_start y (suc j) = month_start y j + month_length y (1 + j)

-- back: from year, month, day, hour and minute
unfoldable pub day_number : ℕ → ℕ → ℕ → ℕ
day_number y m d = year_start (y - 2001) + month_start y (m - 1) + (d - 1)

unfoldable pub minute_number : ℕ → ℕ → ℕ → ℕ → ℕ → ℕ
minute_number y m d h n = day_number y m d * 1440 + h * 60 + n

unfoldable pub exists : ℕ → ℕ → ℕ → ℕ → ℕ → Bool
exists y m d h n =
    leb 2001 y && leb y 2400 && leb 1 m && leb m 12 && leb 1 d && leb d (month_length y m) && ltb h 24 && ltb n 60

unfoldable pub minute_of : ℕ → ℕ → ℕ → ℕ → ℕ → Outcome ℕ
minute_of y m d h n = outcome (refuse 50 (not (exists y m d h n))) (minute_number y m d h n)

-- there: the year is the last whose 1 January is not after the day, and the month is the last whose first is not after it
unfoldable pub year_on : ℕ → ℕ
year_on day = highest_below 400 (λ k. leb (year_start k) day)

unfoldable pub month_on : ℕ → ℕ → ℕ
month_on y n = highest_below 12 (λ j. leb (month_start y j) n)

unfoldable pub date_at : ℕ → Date
date_at t =
    let day = t / 1440 in
    let k = year_on day in
    let y = 2001 + k in
    let n = day - year_start k in
    let j = month_on y n in
    record {
      year = y;
      month = 1 + j;
      day = 1 + (n - month_start y j);
      weekday = day % 7;
      hour = t / 60 % 24;
      minute = t % 60;
    }

unfoldable pub date_of : ℕ → Outcome Date
date_of t = outcome (refuse 33 (leb E t)) (date_at t)
