-- The pass over the rows of an accepted table, which finds the first minute from m on at which a role below `below` grants.
--     pass-none, pass-most                         no row yet; the minute that the first rows give is E at most
--     pass-more, pass_same, pass-other, pass-over  one row more, by what it gives, and rows that give nothing
--     pass-met, pass-idle                          rows are passed: none is before m, and none of a block of one role
--     pass_all, pass-stop, pass-now                the pass ends: after the last row, at a role that does not count, at minute m
--     pass-used, next-is                           what it found is the first use, which is the next use
-- Assumes nothing.
use Prim.Native.Nat.{ℕ, ◌+◌, ◌-◌, ◌≤◌, ◌<◌}
use mathlib.Core.Path.{◌≡◌, refl, sym, ◌∙◌, ap}
use mathlib.Core.Logic.{inl, inr, ⊎_elim}
use mathlib.Core.Bool.{Bool, true, false, not, ◌&&◌, ◌||◌}
use mathlib.Core.List.{List}
use native.Mathlib.Nat.{le_refl, eq-or-lt_of_le}
use native.Mathlib.Omega.{arith}
use borrow.Author.Tests.{ltb-true, leb-true, eqb-true, lt-ltb, le-ltb, not-false}
use lib.Dec.{leb, ltb, eqb}
use Rattle.std.specs.Bool.{then_some}
use Rattle.ground.specs.Believed.Search.{any_below}
use Rattle.ground.proofs.BoolLaws.{and_yes, and_both, or_yes, not_yes, clash, lt-or-le}
use Rattle.ground.proofs.SearchLaws.{any_out, any-no, any-stop, any-more, any-none-of, lowest-same}
use Rattle.ground.proofs.FromLaws.{IsFirst, first-is, is-first, first-same, first_some, first-none}
use Rattle.minutes.specs.Believed.Minutes.{E}
use Rattle.minutes.proofs.WindowLaws.{In, covers-in}
use Rattle.policy.specs.Believed.NextUse.{next_use}
use Rattle.policy.proofs.PolicyLaws.{yes-is}
use Rattle.table.specs.Believed.Table.{through, answer, policy_of}
use Rattle.table.specs.Believed.TableBytes.{cycle_of, rows_of, row_of, table_of}
use Rattle.table.specs.Believed.TableRefusals.{source_of}
use Rattle.table.specs.Inside.{Opened}
use Rattle.table.specs.declared.Counts.{Counts}
use Rattle.table.proofs.HeaderLaws.{counts-are}
use Rattle.table.proofs.FineLaws.{TableFine, table-fine}
use Rattle.table_reader.proofs.RowsLaws.{RowAfter, rows-after}
use Rattle.table_answers.specs.Grants.{row_grants}
use Rattle.table_answers.proofs.SourceLaws.{sources-up}
use Rattle.table_answers.proofs.GrantLaws.{grants-parts}
use Rattle.table_answers.proofs.AnswerLaws.{by_rows}
use Rattle.table_row_times.specs.RowFirst.{first_of_row}
use Rattle.table_next.specs.FirstUse.{grants_below, first_of_rows, idle, first_use}

module _ (s : List ℕ) (u p below t i : ℕ) where
  counts-in : source_of s i < below → row_grants s u p t i ≡ true → grants_below s u p below t i ≡ true
  unfolding grants_below
  counts-in r g = and_both _ _ (lt-ltb _ _ r) g

  counts-out : grants_below s u p below t i ≡ true → (source_of s i < below) × (row_grants s u p t i ≡ true)
  unfolding grants_below
  counts-out h = let g = and_yes _ _ h in (ltb-true _ _ g.0, g.1)

-- ---- the first k rows gave `best`
module _ (s : List ℕ) (u p m below : ℕ) where
  pub pass-none : E ≡ first_of_rows s u p m below 0
  unfolding first_of_rows any_below
  pass-none =
      is-first m E (λ t. false) E
      (record { most = le_refl E; from = λ l. absurd (omega arith); passes = λ l. absurd (omega arith); before = λ v l b. refl })

  module _ (k best : ℕ) (eb : best ≡ first_of_rows s u p m below k) where
    so_far : IsFirst m E (λ t. any_below k (grants_below s u p below t)) best
    unfolding first_of_rows
    so_far = first-is m E _ best eb

    pub pass-most : best ≤ E
    pass-most = so_far.most

    -- rows to j give nothing before it
    pub pass-over : (j : ℕ) → k ≤ j
        → ((i : ℕ) → k ≤ i → i < j → (v : ℕ) → m ≤ v → v < best → grants_below s u p below v i ≡ true → ⊥)
        → best ≡ first_of_rows s u p m below j
    unfolding first_of_rows
    pass-over j l over =
        is-first m E (λ t. any_below j (grants_below s u p below t)) best
        (record {
          most = so_far.most;
          from = so_far.from;
          passes = λ h. let i = any_out _ _ (so_far.passes h) in any-stop _ _ i.0 (omega (arith, i.1)) i.2;
          before = λ v h b. any-none-of _ _ (λ i q. not_yes _ (λ g.
              ⊎_elim
              (λ (a : i < k). clash _ g (any-no _ _ (so_far.before v h b) i a))
              (λ (a : k ≤ i). over i a q v h b g)
              (lt-or-le i k)));
        })

    -- it is m, and no minute is before m
    pub pass-met : (j : ℕ) → k ≤ j → best ≡ m → best ≡ first_of_rows s u p m below j
    pass-met j l e = pass-over j l (λ i a b v h q. absurd (omega arith))

    -- row k gives x
    module _ (x : ℕ) (ex : x ≡ first_of_row s u p m best k) where
      here : IsFirst m best (λ t. row_grants s u p t k) x
      unfolding first_of_row
      here = first-is m best _ x ex

      is_row : (i : ℕ) → k ≤ i → i < k + 1 → i ≡ k
      is_row i a b = omega arith

      -- which is not earlier, or of a role that does not count
      pub pass_same : best ≤ x → best ≡ first_of_rows s u p m below (k + 1)
      pass_same l =
          pass-over (k + 1) (omega arith)
          (λ i a b v h q g.
          let z = is_row i a b in
          clash _ (rw z at (counts-out s u p below v i g).1) (here.before v h (omega arith)))

      pub pass-other : below ≤ source_of s k → best ≡ first_of_rows s u p m below (k + 1)
      pass-other r =
          pass-over (k + 1) (omega arith)
          (λ i a b v h q g.
          let z = is_row i a b in
          let y : source_of s k < below = rw z at (counts-out s u p below v i g).0 in omega arith)

      -- which is earlier
      pub pass-more : x < best → source_of s k < below → x ≡ first_of_rows s u p m below (k + 1)
      unfolding first_of_rows
      pass-more l r =
          is-first m E (λ t. any_below (k + 1) (grants_below s u p below t)) x
          (record {
            most = omega (arith, so_far.most);
            from = λ i. here.from l;
            passes = λ i. any-stop _ (k + 1) k (omega arith) (counts-in s u p below x k r (here.passes l));
            before = λ v h i.
                any-more _ k (so_far.before v h (omega arith))
                (not_yes _ (λ g. clash _ (counts-out s u p below v k g).1 (here.before v h i)));
          })

-- ---- the rows of an accepted table
module _ (s : List ℕ) (f : TableFine s) (u p below : ℕ) where
  below_rows : (t : ℕ) → any_below below (through (table_of s) u p t) ≡ any_below (rows_of s) (grants_below s u p below t)
  below_rows t =
      by_rows s f u p t below _ (counts-in s u p below t) (λ k l. counts-out s u p below t k)

  -- what all rows gave is the first use
  module _ (m best : ℕ) (e : best ≡ first_of_rows s u p m below (rows_of s)) where
    by_roles : IsFirst m E (λ t. any_below below (through (table_of s) u p t)) best
    unfolding first_of_rows
    by_roles = first-is m E _ best (e ∙ first-same m E _ _ (λ t b. sym (below_rows t)))

    pub pass-used : then_some (ltb best E) best ≡ first_use (table_of s) u p m below
    unfolding first_use
    pass-used =
        ⊎_elim
        (λ (l : best < E). rw (lt-ltb best E l) (sym (first_some m E _ best by_roles l)))
        (λ (l : E ≤ best). rw (le-ltb best E l) (sym (first-none m E _ best by_roles l)))
        (lt-or-le best E)

-- rows go by source role, and the rows of one by their dates
module _ (s : List ℕ) (f : TableFine s) where
  dates-up : (i j : ℕ) → i ≤ j → j < rows_of s → source_of s i ≡ source_of s j
      → ((row_of s i).window.begin ≤ (row_of s j).window.begin) × ((row_of s i).window.end ≤ (row_of s j).window.end)
  dates-up i j l b e = ⊎_elim (λ (q : i ≡ j). rw q (le_refl _, le_refl _)) (λ (q : i < j). go q (rows-after s f i j q b)) (eq-or-lt_of_le l)
    where
      go : i < j → RowAfter s i j → ((row_of s i).window.begin ≤ (row_of s j).window.begin) × ((row_of s i).window.end ≤ (row_of s j).window.end)
      go q (inl h) = absurd (omega arith)
      go q (inr (inl h)) = (omega arith, omega arith)
      go q (inr (inr h)) =
          let x = (f.rows i (omega arith)).alone.ordered in
          let y = (f.rows j b).alone.ordered in
          (omega arith, omega arith)

  idle-rows : (u p m best k last : ℕ) → last < rows_of s
      → idle s m best k last ≡ true
      → (i : ℕ) → k ≤ i → i ≤ last → (v : ℕ) → m ≤ v → v < best → row_grants s u p v i ≡ true → ⊥
  unfolding idle
  idle-rows u p m best k last l h i a b v q r g =
      let y = and_yes (leb (row_of s last).window.end m || leb best (row_of s k).window.begin) (eqb (source_of s k) (source_of s last)) h in
      let e : source_of s k ≡ source_of s last = eqb-true _ _ y.1 in
      let x : source_of s k ≤ source_of s i = sources-up s f k i a (omega arith) in
      let z : source_of s i ≤ source_of s last = sources-up s f i last b l in
      let d = dates-up k i a (omega arith) (omega arith) in
      let w = dates-up i last b l (omega arith) in
      let c : In (cycle_of s) (row_of s i).window v = covers-in (grants-parts s u p v i g).0 in
      ⊎_elim
      (λ (o : leb (row_of s last).window.end m ≡ true). omega (arith, leb-true (row_of s last).window.end m o))
      (λ (o : leb best (row_of s k).window.begin ≡ true). omega (arith, leb-true best (row_of s k).window.begin o))
      (or_yes _ _ y.0)

-- the same of the counts that were read
module _ (s : List ℕ) (n : Counts) (o : Opened s n) (u p m below k best : ℕ) (eb : best ≡ first_of_rows s u p m below k) where
  pub pass_all : k ≡ n.rows → best ≡ first_of_rows s u p m below (rows_of s)
  pass_all e = rw (e ∙ (counts-are s n o.counts).rows) at eb

  -- row k and all after it are of roles from `below` on
  pub pass-stop : k < n.rows → below ≤ source_of s k → best ≡ first_of_rows s u p m below (rows_of s)
  pass-stop l r =
      let c = counts-are s n o.counts in
      pass-over s u p m below k best eb (rows_of s) (omega arith)
      (λ i a b v h z g.
      let y : source_of s i < below = (counts-out s u p below v i g).0 in omega (arith, sources-up s (table-fine s o.clear) k i a b))

  -- best is m
  pub pass-now : k ≤ n.rows → best ≡ m → best ≡ first_of_rows s u p m below (rows_of s)
  pass-now l e =
      let c = counts-are s n o.counts in
      pass-met s u p m below k best eb (rows_of s) (omega arith) e

  -- the rows from k to before j are idle
  pub pass-idle : (j : ℕ) → k < j → j ≤ n.rows → (d : Bool) → d ≡ idle s m best k (j - 1) → not d ≡ false → best ≡ first_of_rows s u p m below j
  pass-idle j l b d e h =
      let c = counts-are s n o.counts in
      pass-over s u p m below k best eb j (omega arith)
      (λ i a q v y z g.
      idle-rows s (table-fine s o.clear) u p m best k (j - 1) (omega arith) (sym e ∙ not-false d h) i a (omega arith) v y z
      (counts-out s u p below v i g).1)

-- the first use through any role is the next use
pub next-is : (s : List ℕ) (n : Counts) → Opened s n → (u p m : ℕ) → first_use (table_of s) u p m n.roles ≡ next_use (policy_of (table_of s)) u p m
unfolding first_use next_use answer table_of
next-is s n o u p m =
    rw (counts-are s n o.counts).roles (lowest-same E _ _ (λ t l. ap (λ (b : Bool). leb m t && b) (sym (yes-is _ _))))
