-- Dates that exist: the parts of the test, and where such a date lies.
--     exists-in, exists-out, exists-not    the test from its parts, its parts from the test, and the test where they clash
--     date-year, date-month                the day of such a date lies in its year, and its day of the year in its month
--     number-below                         its minute is below E
-- Assumes nothing.
use Prim.Native.Nat.{ℕ, suc, ◌+◌, ◌-◌, ◌*◌, ◌<◌, ◌≤◌}
use mathlib.Core.Path.{◌≡◌, refl}
use mathlib.Core.Bool.{Bool, true, false, ◌&&◌}
use native.Mathlib.Omega.{arith}
use lib.Dec.{T, leb, ltb, leb→le, ltb→lt}
use borrow.Author.Tests.{le-leb, lt-ltb}
use Rattle.ground.proofs.BoolLaws.{and_l, and_r, eq→T}
use Rattle.minutes.specs.Believed.Minutes.{E}
use Rattle.calendar.specs.Believed.Calendar.{year_length, month_length, year_start, month_start, day_number, minute_number, exists}
use Rattle.calendar.proofs.StartLaws.{Placed, later}
use Rattle.calendar.proofs.PeriodLaws.{year-next, month-next, month-gap, year-end, month-end}

pub record Exists (y m d h n : ℕ) : Type 0 where
  pub first-year : 2001 ≤ y
  pub last-year : y ≤ 2400
  pub first-month : 1 ≤ m
  pub last-month : m ≤ 12
  pub first-day : 1 ≤ d
  pub last-day : d ≤ month_length y m
  pub hour : h < 24
  pub minute : n < 60

-- E is where the year 2401 would start
pub end_is : year_start 400 * 1440 ≡ E
unfolding E
end_is = rw year-end

module _ {y m d h n : ℕ} where
  pub exists-in : Exists y m d h n → exists y m d h n ≡ true
  unfolding exists
  exists-in x =
      simp (
        le-leb 2001 y x.first-year,
        le-leb y 2400 x.last-year,
        le-leb 1 m x.first-month,
        le-leb m 12 x.last-month,
        le-leb 1 d x.first-day,
        le-leb d (month_length y m) x.last-day,
        lt-ltb h 24 x.hour,
        lt-ltb n 60 x.minute,
      )

  pub exists-out : exists y m d h n ≡ true → Exists y m d h n
  unfolding exists
  exists-out e =
      let t : T (leb 2001 y && leb y 2400 && leb 1 m && leb m 12 && leb 1 d && leb d (month_length y m) && ltb h 24 && ltb n 60)
      = eq→T _ e in
      record {
        first-year = leb→le 2001 y (search (and_l, and_r) depth 9);
        last-year = leb→le y 2400 (search (and_l, and_r) depth 9);
        first-month = leb→le 1 m (search (and_l, and_r) depth 9);
        last-month = leb→le m 12 (search (and_l, and_r) depth 9);
        first-day = leb→le 1 d (search (and_l, and_r) depth 9);
        last-day = leb→le d (month_length y m) (search (and_l, and_r) depth 9);
        hour = ltb→lt h 24 (search (and_l, and_r) depth 9);
        minute = ltb→lt n 60 (search (and_l, and_r) depth 9);
      }

  pub exists-not : (Exists y m d h n → ⊥) → exists y m d h n ≡ false
  exists-not f = go (exists y m d h n) refl
    where
      go : (b : Bool) → exists y m d h n ≡ b → b ≡ false
      go true e = absurd (f (exists-out e))
      go false e = refl

  module _ (x : Exists y m d h n) where
    in-year : month_start y (m - 1) + d ≤ year_length y
    in-year = omega (arith, month-gap y m x.first-month, later (month_start y) _ (month-next y) m 12 x.last-month, month-end y)

    pub date-year : Placed 400 year_start (day_number y m d) (y - 2001)
    unfolding day_number
    date-year =
        let e : 2001 + (y - 2001) ≡ y = omega arith in
        let s : year_start (suc (y - 2001)) ≡ year_start (y - 2001) + year_length y = rw e at (year-next (y - 2001)) in
        omega (arith, in-year)

    pub date-month : Placed 12 (month_start y) (day_number y m d - year_start (y - 2001)) (m - 1)
    unfolding day_number
    date-month =
        let e : suc (m - 1) ≡ m = omega arith in
        record { below = omega arith; from = omega arith; to = rw e (omega (arith, month-gap y m x.first-month)) }

    pub day-below : day_number y m d < 146097
    day-below = omega (arith, date-year, later year_start _ year-next (suc (y - 2001)) 400 (omega arith), year-end)

    pub number-below : minute_number y m d h n < E
    unfolding minute_number
    number-below = omega (arith, day-below, end_is, year-end)
