-- The first minute from m on and before `best` at which the row at a position grants, by the tests of the code.
--     begins-late, is-over, not-both     it does not grant before `best`
--     first-both                         it may: by the first minute that its window covers
--     row-there                          the same of row i, which is the row at its place
-- Assumes nothing.
use Rattle.std.proofs.Common.{◌≡◌, ℕ, ◌+◌, ◌*◌, ◌≤◌, ◌<◌, refl, true, false, List, min, arith, ◌∙◌}
use mathlib.Core.Logic.{⊎_elim}
use Rattle.ground.specs.From.{first_from}
use Rattle.ground.proofs.BoolLaws.{not_yes, clash, and_yes, and_both, lt-or-le}
use Rattle.ground.proofs.FromLaws.{first-is, is-first}
use Rattle.endian.specs.Believed.Numbers.{u32_at}
use Rattle.bitset.specs.Believed.Sets.{has}
use Rattle.minutes.specs.Believed.Minutes.{E, Window, covers}
use Rattle.minutes.proofs.WindowLaws.{In, covers-in}
use Rattle.table.specs.Believed.TableBytes.{cycle_of, derived_of, entry_of, row_at_byte, row_of}
use Rattle.table_answers.specs.Grants.{both_at, grants_at, row_grants}
use Rattle.table_answers.proofs.GrantLaws.{at-parts, at-of}
use Rattle.table_row_times.specs.RowFirst.{row_first, first_of_row}

module _ (s : List ℕ) (u p m best at : ℕ) where
  -- no minute before `best` will do
  kept : ((v : ℕ) → m ≤ v → v < best → grants_at s u p v at ≡ true → ⊥) → best ≡ row_first s u p m best at
  unfolding row_first
  kept h =
      is-first m best (λ t. grants_at s u p t at) best
      (record {
        most = omega arith;
        from = λ l. absurd (omega arith);
        passes = λ l. absurd (omega arith);
        before = λ v l b. not_yes _ (h v l b);
      })

  dates : (v : ℕ) → grants_at s u p v at ≡ true → In (cycle_of s) (row_at_byte s at).window v
  dates v g = covers-in (at-parts s u p v at g).0

  both : (v : ℕ) → grants_at s u p v at ≡ true → both_at s u p at ≡ true
  both v g = let z = at-parts s u p v at g in and_both _ _ z.1 z.2

  -- its window is w
  module _ (w : Window) (ew : w ≡ (row_at_byte s at).window) where
    pub begins-late : best ≤ w.begin → best ≡ row_first s u p m best at
    begins-late h = kept (λ v l b g. omega (arith, (rw (← ew) at dates v g).from))

    pub is-over : w.end ≤ m → best ≡ row_first s u p m best at
    is-over h = kept (λ v l b g. omega (arith, (rw (← ew) at dates v g).to))

  pub not-both : both_at s u p at ≡ false → best ≡ row_first s u p m best at
  not-both h = kept (λ v l b g. clash _ (both v g) h)

  -- z is the first minute from m on that its window covers
  module _ (z : ℕ) (ez : z ≡ first_from m E (covers (cycle_of s) (row_at_byte s at).window)) (most : best ≤ E) (h : both_at s u p at ≡ true) where
    earlier : z < best → z ≡ row_first s u p m best at
    unfolding row_first
    earlier k =
        let f = first-is m E (covers (cycle_of s) (row_at_byte s at).window) z ez in
        let l : z < E = omega arith in
        let b = and_yes (has (entry_of s (u32_at s at)).users u) (has (entry_of s (u32_at s at)).permissions p) h in
        is-first m best (λ t. grants_at s u p t at) z
        (record {
          most = omega arith;
          from = λ j. f.from l;
          passes = λ j. at-of s u p z at (f.passes l) b.0 b.1;
          before = λ v j d. not_yes _ (λ g. clash _ (at-parts s u p v at g).0 (f.before v j d));
        })

    too-late : best ≤ z → best ≡ row_first s u p m best at
    too-late k =
        let f = first-is m E (covers (cycle_of s) (row_at_byte s at).window) z ez in
        kept (λ v j d g. clash _ (at-parts s u p v at g).0 (f.before v j (omega arith)))

    pub first-both : min z best ≡ row_first s u p m best at
    first-both =
        ⊎_elim
        (λ (k : z < best). let e : min z best ≡ z = omega arith in e ∙ earlier k)
        (λ (k : best ≤ z). let e : min z best ≡ best = omega arith in e ∙ too-late k)
        (lt-or-le z best)

pub row-there : (s : List ℕ) (u p m best i : ℕ) → row_first s u p m best (16 + 17 * derived_of s + 16 * i) ≡ first_of_row s u p m best i
unfolding row_first first_of_row grants_at row_grants row_of
row-there s u p m best i = refl
