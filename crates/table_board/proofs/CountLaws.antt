-- How many pass, counted in two ways.
--     count-matched     so many numbers have a row as there are rows that pass, where each of these rows is that of just one of the numbers
-- Assumes nothing.
use Prim.Native.Nat.{ℕ, zero, suc, ◌+◌, ◌<◌}
use mathlib.Core.Path.{◌≡◌, refl, sym, ◌∙◌, ap, ap₂}
use mathlib.Core.Logic.{⊎_elim}
use mathlib.Core.Bool.{Bool, true, false}
use native.Mathlib.Nat.{le_refl, lt_trans, add-zero, not-suc-le-zero, eq-or-lt_of_le, le_of_suc-le-suc}
use native.Mathlib.Omega.{arith}
use borrow.Author.Tests.{lt-ltb, le-ltb}
use lib.Dec.{ltb}
use Rattle.ground.specs.Believed.Search.{one, count_below}
use Rattle.ground.proofs.BoolLaws.{clash, ltb_iff}
use Rattle.ground.proofs.SearchLaws.{count_same}

-- a test that nothing passes
count_no : (m : ℕ) (f : ℕ → Bool) → ((i : ℕ) → f i ≡ false) → count_below m f ≡ 0
unfolding count_below
count_no zero f h = refl
count_no (suc m) f h = ap₂ ◌+◌ (count_no m f h) (ap one (h m))

-- tests that agree but at q, which only g passes
module _ (f g : ℕ → Bool) (q : ℕ) (no : f q ≡ false) (yes : g q ≡ true) where
  count-but : (m : ℕ) → q < m → ((i : ℕ) → (i ≡ q → ⊥) → f i ≡ g i) → count_below m g ≡ count_below m f + 1
  unfolding count_below
  count-but zero l h = absurd (not-suc-le-zero l)
  count-but (suc m) l h =
      ⊎_elim
      (λ (e : q ≡ m). rw (← e, no, yes) (ap (λ (x : ℕ). x + 1) (count_same q g f (λ i k. sym (h i (λ z. omega arith))) ∙ sym (add-zero _))))
      (λ (k : q < m). let b = count-but m k h in let z = ap one (h m (λ z. omega arith)) in omega arith)
      (eq-or-lt_of_le (le_of_suc-le-suc l))

module _ (m : ℕ) (g : ℕ → Bool) (row role : ℕ → ℕ) where
  -- the row of a number, where it is below n, passes and has that number; and each row below n that passes is that of the number it has
  pub record Matched (n : ℕ) : Type 0 where
    pub there : (j : ℕ) → row j < n → (role (row j) ≡ j) × (g (row j) ≡ true)
    pub back : (k : ℕ) → k < n → g k ≡ true → (role k < m) × (row (role k) ≡ k)

  pub count-matched : (n : ℕ) → Matched n → count_below m (λ j. ltb (row j) n) ≡ count_below n g
  unfolding count_below
  count-matched zero w = count_no m _ (λ j. le-ltb (row j) 0 (omega arith))
  count-matched (suc n) w =
      go (g n) refl
      (count-matched n (record { there = λ j l. w.there j (lt_trans l (le_refl (suc n))); back = λ k l. w.back k (lt_trans l (le_refl (suc n))) }))
    where
      elsewhere : (j : ℕ) → (row j ≡ n → ⊥) → ltb (row j) n ≡ ltb (row j) (suc n)
      elsewhere j h = ltb_iff (row j) n (row j) (suc n) (λ l. omega arith) (λ l. omega arith)

      go : (b : Bool) → g n ≡ b → count_below m (λ j. ltb (row j) n) ≡ count_below n g
          → count_below m (λ j. ltb (row j) (suc n)) ≡ count_below n g + one b
      go true e before =
          let z = w.back n (le_refl (suc n)) e in
          count-but (λ j. ltb (row j) n) (λ j. ltb (row j) (suc n)) (role n) (le-ltb _ n (omega arith)) (lt-ltb _ (suc n) (omega arith)) m z.0
          (λ j d. elsewhere j (λ q. d (sym (w.there j (omega arith)).0 ∙ ap role q)))
          ∙ ap (λ (x : ℕ). x + 1) before
      go false e before =
          count_same m _ _ (λ j l. sym (elsewhere j (λ q. clash (g n) (sym (ap g q) ∙ (w.there j (omega arith)).1) e))) ∙ before ∙ sym (add-zero _)
