-- A search from a number on.
--     from_at, from-none                 the lowest number from m on that passes, and that there is none
--     IsFirst, first-is, is-first        the same as a number, by what it says
--     first_some, first-none             back to the lowest number
--     first-same                         tests that agree below the bound
-- Assumes nothing.
use Prim.Native.Nat.{ℕ, ◌≤◌, ◌<◌}
use mathlib.Core.Path.{◌≡◌, refl, sym, ◌∙◌, ap}
use mathlib.Core.Logic.{◌↔◌, ⊎_elim}
use mathlib.Core.Bool.{Bool, true, false, ◌&&◌}
use Rattle.std.proofs.Common.{Option, None, Some}
use native.Mathlib.Nat.{le_refl, le_antisymm}
use native.Mathlib.Omega.{arith}
use borrow.Author.Tests.{leb-true, le-leb}
use lib.Dec.{leb}
use Rattle.ground.specs.Believed.Search.{lowest_below}
use Rattle.ground.specs.From.{or_number, first_from}
use Rattle.ground.proofs.BoolLaws.{and_yes, and_both, not_yes, clash, lt-or-le}
use Rattle.ground.proofs.SearchLaws.{lowest-is, lowest-none, lowest-out, lowest-no, lowest-same}

module _ (m n : ℕ) (f : ℕ → Bool) where
  passing : (v : ℕ) → m ≤ v → f v ≡ true → (leb m v && f v) ≡ true
  passing v l h = and_both (leb m v) (f v) (le-leb m v l) h

  parts : (v : ℕ) → (leb m v && f v) ≡ true → (m ≤ v) × (f v ≡ true)
  parts v h = let z = and_yes (leb m v) (f v) h in (leb-true m v z.0, z.1)

  failing : (v : ℕ) → (leb m v && f v) ≡ false → m ≤ v → f v ≡ false
  failing v h l = not_yes (f v) (λ g. clash (leb m v && f v) (passing v l g) h)

  excluded : (v : ℕ) → (m ≤ v → f v ≡ false) → (leb m v && f v) ≡ false
  excluded v h = not_yes (leb m v && f v) (λ g. let z = parts v g in clash (f v) z.1 (h z.0))

  pub from_at : (k : ℕ) → (lowest_below n (λ i. leb m i && f i) ≡ Some k)
      ↔ ((m ≤ k) × (k < n) × (f k ≡ true) × ((v : ℕ) → m ≤ v → v < k → f v ≡ false))
  from_at k = (
    (λ e.
        let z = lowest-out _ n k e in
        let y = parts k z.1 in
        (y.0, z.0, y.1, λ v l b. failing v (z.2 v b) l)),
    (λ z. lowest-is _ n k z.1 (passing k z.0 z.2) (λ v b. excluded v (λ l. z.3 v l b))),
  )

  pub from-none : (lowest_below n (λ i. leb m i && f i) ≡ None) ↔ ((v : ℕ) → m ≤ v → v < n → f v ≡ false)
  from-none = (
    (λ e v l b. failing v (lowest-no _ n e v b) l),
    (λ h. lowest-none _ n (λ v b. excluded v (λ l. h v l b))),
  )

  -- r is the first number from m to before n that passes, or n
  pub record IsFirst (r : ℕ) : Type 0 where
    pub most : r ≤ n
    pub from : r < n → m ≤ r
    pub passes : r < n → f r ≡ true
    pub before : (v : ℕ) → m ≤ v → v < r → f v ≡ false

  pub first-is : (r : ℕ) → r ≡ first_from m n f → IsFirst r
  unfolding first_from
  first-is r e = rw e (go (lowest_below n (λ i. leb m i && f i)) refl)
    where
      go : (o : Option ℕ) → lowest_below n (λ i. leb m i && f i) ≡ o → IsFirst (or_number n o)
      go None h = record { most = le_refl n; from = λ l. absurd (omega arith); passes = λ l. absurd (omega arith); before = from-none.0 h }
      go (Some k) h = let z = (from_at k).0 h in record { most = omega arith; from = λ l. z.0; passes = λ l. z.2; before = z.3 }

  pub first_some : (r : ℕ) → IsFirst r → r < n → lowest_below n (λ i. leb m i && f i) ≡ Some r
  first_some r h l = (from_at r).1 (h.from l, l, h.passes l, h.before)

  pub first-none : (r : ℕ) → IsFirst r → n ≤ r → lowest_below n (λ i. leb m i && f i) ≡ None
  first-none r h l = from-none.1 (λ v k b. h.before v k (omega arith))

  pub is-first : (r : ℕ) → IsFirst r → r ≡ first_from m n f
  unfolding first_from
  is-first r h =
      ⊎_elim
      (λ (l : r < n). sym (ap (or_number n) (first_some r h l)))
      (λ (l : n ≤ r). le_antisymm h.most l ∙ sym (ap (or_number n) (first-none r h l)))
      (lt-or-le r n)

pub first-same : (m n : ℕ) (f g : ℕ → Bool) → ((i : ℕ) → i < n → f i ≡ g i) → first_from m n f ≡ first_from m n g
unfolding first_from
first-same m n f g h = ap (or_number n) (lowest-same n _ _ (λ i l. ap (λ (b : Bool). leb m i && b) (h i l)))
