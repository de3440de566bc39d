-- Years and months as starts (StartLaws).
--     year-next, year-before               the next start, and back
--     month-next, month-gap                the next start; a month's length is what lies between its start and the next
--     year-end, month-end                  where the last year ends; where a year ends, by months
--     common-year, leap-year, leap-room    the starts of months, by those of 2001; none is after 366 days
--     year-stays, year-moves, year-last    the year of a day is the guess by 366, or the next
--     month-below, month-stays, month-moves     the month of a day of a year is the guess by 31, or the next
--     year-place, month-place, year-is, month-is     the year of a day, and the month of a day of a year, by where they start and end
-- Assumes nothing.
use Prim.Native.Nat.{ℕ, zero, suc, ◌+◌, ◌-◌, ◌/◌, ◌<◌, ◌≤◌, zero-le}
use mathlib.Core.Path.{◌≡◌, refl, ap, ◌∙◌}
use mathlib.Core.Bool.{Bool, true, false}
use native.Mathlib.Nat.{not-suc-le-zero, le_of_suc-le-suc}
use native.Mathlib.Numerals.{add-one, one-add}
use native.Mathlib.Omega.{arith}
use mir.Val.{bool_byte}
use lib.Dec.{T, leb, lit<}
use borrow.Author.Tests.{le-leb}
use Rattle.calendar.specs.Believed.Calendar.{leap, year_length, month_length, year_start, month_start, year_on, month_on}
use Rattle.calendar.proofs.StartLaws.{near, Placed, later, place_in, place_is, guess-below, guess-stays, guess-next}

pub year-next : (k : ℕ) → year_start (suc k) ≡ year_start k + year_length (2001 + k)
unfolding year_start
year-next k = refl

-- where a year starts, by where the next one does
pub year-before : (k n l : ℕ) → n ≡ year_start (k + 1) → l ≡ year_length (2001 + k) → (l ≤ n) × (n - l ≡ year_start k)
year-before k n l en el =
    let e : year_start (k + 1) ≡ year_start k + year_length (2001 + k) = ap year_start (add-one k) ∙ year-next k in
    (omega arith, omega arith)

pub month-next : (y j : ℕ) → month_start y (suc j) ≡ month_start y j + month_length y (1 + j)
unfolding month_start
month-next y j = refl

pub month-gap : (y m : ℕ) → 0 < m → month_start y m ≡ month_start y (m - 1) + month_length y m
month-gap y zero h = absurd (not-suc-le-zero h)
month-gap y (suc j) h = let e : suc j - 1 ≡ j = omega arith in rw e (rw (one-add j) at (month-next y j))

year-begins : year_start 0 ≡ 0
unfolding year_start
year-begins = refl

month-begins : (y : ℕ) → month_start y 0 ≡ 0
unfolding month_start
month-begins y = refl

pub year-end : year_start 400 ≡ 146097
unfolding year_start year_length leap
year-end = refl

month-end-of : (y : ℕ) (b : Bool) → leap y ≡ b → month_start y 12 ≡ year_length y
unfolding month_start month_length year_length
month-end-of y true e = simp e
month-end-of y false e = simp e

pub month-end : (y : ℕ) → month_start y 12 ≡ year_length y
month-end y = month-end-of y (leap y) refl

-- months start in every common year as in 2001
pub common-year : (y : ℕ) → leap y ≡ false → (j : ℕ) → month_start y j ≡ month_start 2001 j
unfolding month_start month_length leap
common-year y e zero = refl
common-year y e (suc j) = rw (common-year y e j, e)

-- from March on a month is as long in a leap year, and starts a day later
later-length : (y j : ℕ) → month_length y (1 + suc (suc j)) ≡ month_length 2001 (1 + suc (suc j))
unfolding month_length
later-length y j = let e : 1 + suc (suc j) - 1 ≡ suc (suc j) = omega arith in rw e refl

later-start : (y : ℕ) → leap y ≡ true → (j : ℕ) → month_start y (suc (suc j)) ≡ month_start 2001 (suc (suc j)) + 1
unfolding month_start month_length leap
later-start y e zero = simp e
later-start y e (suc j) =
    omega (arith, later-start y e j, later-length y j, month-next y (suc (suc j)), month-next 2001 (suc (suc j)))

pub leap-year : (y : ℕ) → leap y ≡ true → (j : ℕ) → month_start y j ≡ month_start 2001 j + bool_byte (leb 2 j)
unfolding month_start month_length
leap-year y e zero = refl
leap-year y e (suc zero) = refl
leap-year y e (suc (suc j)) = rw (le-leb 2 (suc (suc j)) (omega arith)) (later-start y e j)

pub leap-room : (j : ℕ) → j < 13 → month_start 2001 j + bool_byte (leb 2 j) ≤ 366
unfolding year_length leap
leap-room j h =
    rw (leap-year 2004 refl j, month-end 2004) at (later (month_start 2004) _ (month-next 2004) j 12 (le_of_suc-le-suc h))

-- 1 January of year k lies from 366 * (k - 1) to 366 * k days after day 0: one computed test over all years
year-near : T (near (λ k. year_length (2001 + k)) 366 400 0 (year_start 0))
unfolding year_start year_length leap
year-near = tt

-- likewise the months of a year, by 31
month-near-of : (y : ℕ) (b : Bool) → leap y ≡ b → T (near (λ j. month_length y (1 + j)) 31 12 0 (month_start y 0))
unfolding month_start month_length
month-near-of y true e = simp e tt
month-near-of y false e = simp e tt

month-near : (y : ℕ) → T (near (λ j. month_length y (1 + j)) 31 12 0 (month_start y 0))
month-near y = month-near-of y (leap y) refl

module _ (day : ℕ) (ends : day < year_start 400) where
  pub year-stays : day < year_start (day / 366 + 1) → year_on day ≡ day / 366
  unfolding year_on
  year-stays = guess-stays year_start _ year-next year-begins 366 400 (lit< tt) year-near day ends

  pub year-moves : year_start (day / 366 + 1) ≤ day → year_on day ≡ day / 366 + 1
  unfolding year_on
  year-moves = guess-next year_start _ year-next year-begins 366 400 (lit< tt) year-near day ends

  -- in the last year there is no next
  pub year-last : 399 ≤ day / 366 → year_on day ≡ day / 366
  year-last h = let e : day / 366 + 1 ≡ 400 = omega (arith, year-end) in year-stays (rw e ends)

  pub year-place : (k : ℕ) → k ≡ year_on day → Placed 400 year_start day k
  unfolding year_on
  year-place k e = rw e (place_in year_start _ year-next 400 day (rw year-begins zero-le) ends)

module _ (y n : ℕ) (ends : n < month_start y 12) where
  pub month-below : n / 31 < 12
  month-below = guess-below (month_start y) _ (month-next y) (month-begins y) 31 12 (lit< tt) (month-near y) n ends

  pub month-stays : n < month_start y (n / 31 + 1) → month_on y n ≡ n / 31
  unfolding month_on
  month-stays = guess-stays (month_start y) _ (month-next y) (month-begins y) 31 12 (lit< tt) (month-near y) n ends

  pub month-moves : month_start y (n / 31 + 1) ≤ n → month_on y n ≡ n / 31 + 1
  unfolding month_on
  month-moves = guess-next (month_start y) _ (month-next y) (month-begins y) 31 12 (lit< tt) (month-near y) n ends

  pub month-place : (j : ℕ) → j ≡ month_on y n → Placed 12 (month_start y) n j
  unfolding month_on
  month-place j e = rw e (place_in (month_start y) _ (month-next y) 12 n (rw (month-begins y) zero-le) ends)

pub year-is : (day k : ℕ) → Placed 400 year_start day k → year_on day ≡ k
unfolding year_on
year-is day k = place_is year_start _ year-next 400 day k

pub month-is : (y n j : ℕ) → Placed 12 (month_start y) n j → month_on y n ≡ j
unfolding month_on
month-is y n j = place_is (month_start y) _ (month-next y) 12 n j
