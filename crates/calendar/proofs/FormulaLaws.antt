-- Year starts by formula (document 02, item 2): the formula is the leap-year rule for each year from 2001 to 2400.
--     formula          it gives the day number of 1 January
--     formula-short    it is a day short where 2401 would start, since 2400 is a leap year
-- Assumes nothing.
use Prim.Native.Nat.{ℕ, zero, suc, ◌+◌, ◌/◌, ◌%◌, ◌<◌}
use mathlib.Core.Path.{◌≡◌, refl, sym, ap, ◌∙◌}
use mathlib.Core.Bool.{Bool, true, false}
use native.Mathlib.Nat.{le_of_lt}
use native.Mathlib.Omega.{arith}
use lib.Dec.{eqb}
use borrow.Author.Tests.{eqb-true, eqb-false, ne_eqb}
use Rattle.ground.specs.Believed.Choice.{pick}
use Rattle.calendar.specs.Believed.Calendar.{leap, year_length, year_start}
use Rattle.calendar.specs.Believed.Formula.{start_by}
use Rattle.calendar.proofs.PeriodLaws.{year-end}

-- year 2001 + k is a fourth year, or a hundredth one, where the quotient is one more after it
fourth : (k : ℕ) (b : Bool) → eqb ((2001 + k) % 4) 0 ≡ b → suc k / 4 ≡ k / 4 + pick b 1 0
fourth k true e = omega (arith, eqb-true ((2001 + k) % 4) 0 e)
fourth k false e = omega (arith, eqb-false ((2001 + k) % 4) 0 e)

hundredth : (k : ℕ) (b : Bool) → eqb ((2001 + k) % 100) 0 ≡ b → suc k / 100 ≡ k / 100 + pick b 1 0
hundredth k true e = omega (arith, eqb-true ((2001 + k) % 100) 0 e)
hundredth k false e = omega (arith, eqb-false ((2001 + k) % 100) 0 e)

formula-next : (k : ℕ) → suc k < 400 → start_by k + year_length (2001 + k) ≡ start_by (suc k)
unfolding year_length leap
formula-next k h = go (eqb ((2001 + k) % 4) 0) (eqb ((2001 + k) % 100) 0) refl refl
  where
    not-400 : eqb ((2001 + k) % 400) 0 ≡ false
    not-400 = ne_eqb ((2001 + k) % 400) 0 (omega arith)

    go : (a b : Bool) → eqb ((2001 + k) % 4) 0 ≡ a → eqb ((2001 + k) % 100) 0 ≡ b → start_by k + year_length (2001 + k) ≡ start_by (suc k)
    go false false e f = simp (e, f, not-400) (rw (fourth k false e, hundredth k false f) (omega arith))
    go false true e f = absurd (omega (arith, eqb-false ((2001 + k) % 4) 0 e, eqb-true ((2001 + k) % 100) 0 f))
    go true true e f = simp (e, f, not-400) (rw (fourth k true e, hundredth k true f) (omega arith))
    go true false e f = simp (e, f, not-400) (rw (fourth k true e, hundredth k false f) (omega arith))

pub formula : (k : ℕ) → k < 400 → start_by k ≡ year_start k
unfolding year_start
formula zero h = refl
formula (suc k) h = sym (formula-next k h) ∙ ap (λ s. s + year_length (2001 + k)) (formula k (le_of_lt h))

pub formula-short : start_by 400 + 1 ≡ year_start 400
formula-short = sym year-end
