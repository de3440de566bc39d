-- The answer of an accepted table by its rows: the first row that grants has the lowest source role.
--     row_inside                     where rows and their entries lie
--     grant-through, through-grant   a role answers exactly when a row of it grants
--     by_rows, yes-grants            some role answers, and the answer is yes, exactly when a row grants
--     first-grants, none-grants      the answer, by the first row that grants
-- Assumes nothing.
use Rattle.ground.proofs.BoolLaws.{lt-or-le, and_yes, and_both, and-three, clash, not_yes, eq-ext}
use Prim.Native.Nat.{ℕ, ◌+◌, ◌*◌, ◌≤◌, ◌<◌}
use mathlib.Core.Path.{◌≡◌, refl, sym, ◌∙◌, ap}
use mathlib.Core.Logic.{⊎_elim}
use mathlib.Core.List.{List}
use Rattle.std.proofs.Common.{None, Some}
use mathlib.Core.Bool.{Bool, true, false, ◌&&◌}
use borrow.Author.Tests.{eq-eqb, eqb-true}
use native.Mathlib.Omega.{arith}
use lib.Dec.{eqb}
use lib.ListN.{length}
use Rattle.ground.specs.Believed.Search.{any_below}
use Rattle.ground.proofs.SearchLaws.{any_same, any-stop, list_any, any_out, any-no, lowest-is, lowest-none}
use Rattle.ground.proofs.SequenceLaws.{list_of-length, get-list_of}
use Rattle.bitset.specs.Believed.Sets.{has}
use Rattle.minutes.specs.Believed.Minutes.{covers}
use Rattle.policy.specs.Believed.Policy.{is_yes}
use Rattle.policy.proofs.PolicyLaws.{yes-is}
use Rattle.table.specs.Believed.Table.{Row, no_entry, entry_at, enabled, through, answer}
use Rattle.table.specs.Believed.TableBytes.{cycle_of, roles_of, derived_of, rows_of, entry_of, row_of, table_of}
use Rattle.table.specs.Believed.TableRefusals.{source_of}
use Rattle.table.specs.Inside.{Opened}
use Rattle.table_answers.specs.Grants.{RowInside, covering, row_grants}
use Rattle.table.specs.declared.Counts.{Counts}
use Rattle.table.proofs.HeaderLaws.{counts-are}
use Rattle.table.proofs.FineLaws.{TableFine, table-fine}
use Rattle.table_answers.proofs.SourceLaws.{sources-up}
use Rattle.table_answers.proofs.GrantLaws.{grants-parts, grants-of}

-- row i enables derived role d at t
abbrev pub enables : List ℕ → ℕ → ℕ → ℕ → Bool
enables s t d i = eqb (row_of s i).derived d && covering s t i

abbrev passes : List ℕ → ℕ → ℕ → ℕ → ℕ → ℕ → Bool
passes s u p t r d =
    eqb (entry_of s d).source r && any_below (rows_of s) (enables s t d) && has (entry_of s d).users u && has (entry_of s d).permissions p

module _ (s : List ℕ) where
  entry-is : (d : ℕ) → d < derived_of s → entry_at (table_of s) d ≡ entry_of s d
  unfolding table_of
  entry-is d l = get-list_of (derived_of s) (entry_of s) no_entry d l

  pub enabled-is : (d t : ℕ) → enabled (table_of s) d t ≡ any_below (rows_of s) (enables s t d)
  unfolding enabled table_of
  enabled-is d t = list_any (λ (w : Row). eqb w.derived d && covers (cycle_of s) w.window t) (rows_of s) (row_of s)

  entries-are : length (table_of s).entries ≡ derived_of s
  unfolding table_of
  entries-are = list_of-length (derived_of s) (entry_of s)

  through-is : (u p t r : ℕ) → through (table_of s) u p t r ≡ any_below (derived_of s) (passes s u p t r)
  unfolding through
  through-is u p t r =
      ap (λ (n : ℕ). any_below n (λ d. eqb (entry_at (table_of s) d).source r && enabled (table_of s) d t && has (entry_at (table_of s) d).users u && has (entry_at (table_of s) d).permissions p)) entries-are
      ∙ any_same (derived_of s) _ _ (λ d l. rw (entry-is d l, enabled-is d t) refl)

module _ (s : List ℕ) (f : TableFine s) (u p t : ℕ) where
  -- the role of a row that grants answers
  pub grant-through : (k : ℕ) → k < rows_of s → row_grants s u p t k ≡ true → through (table_of s) u p t (source_of s k) ≡ true
  grant-through k l g =
      let d = (row_of s k).derived in
      let h = grants-parts s u p t k g in
      let e = any-stop (enables s t d) (rows_of s) k l (and_both (eqb d d) (covering s t k) (eq-eqb d d refl) h.0) in
      let q = eq-eqb (source_of s k) (source_of s k) refl in
      through-is s u p t (source_of s k)
      ∙ any-stop (passes s u p t (source_of s k)) (derived_of s) d (f.rows k l).alone.derived (rw (q, e, h.1, h.2) refl)

  -- a role that answers has a row that grants
  pub record GrantOf (r : ℕ) : Type 0 where
    pub row : ℕ
    pub below : row < rows_of s
    pub granted : row_grants s u p t row ≡ true
    pub source : source_of s row ≡ r

  pub through-grant : (r : ℕ) → through (table_of s) u p t r ≡ true → GrantOf r
  through-grant r h =
      let w = any_out (derived_of s) (passes s u p t r) (sym (through-is s u p t r) ∙ h) in
      let d = w.0 in
      let x = entry_of s d in
      let e = any_below (rows_of s) (enables s t d) in
      let h1 = and_yes (eqb x.source r && e && has x.users u) (has x.permissions p) w.2 in
      let h2 = and-three (eqb x.source r) e (has x.users u) h1.0 in
      let k = any_out (rows_of s) (enables s t d) h2.1 in
      let k1 = and_yes (eqb (row_of s k.0).derived d) (covering s t k.0) k.2 in
      let i : (row_of s k.0).derived ≡ d = eqb-true (row_of s k.0).derived d k1.0 in
      record {
        row = k.0;
        below = k.1;
        granted = grants-of s u p t k.0 k1.1 (rw i h2.2) (rw i h1.1);
        source = ap (λ (j : ℕ). (entry_of s j).source) i ∙ eqb-true x.source r h2.0;
      }

  -- a role below `below` answers exactly when a row of one grants, which g says
  pub by_rows : (below : ℕ) (g : ℕ → Bool) → ((k : ℕ) → source_of s k < below → row_grants s u p t k ≡ true → g k ≡ true)
      → ((k : ℕ) → k < rows_of s → g k ≡ true → (source_of s k < below) × (row_grants s u p t k ≡ true))
      → any_below below (through (table_of s) u p t) ≡ any_below (rows_of s) g
  by_rows below g into out =
      eq-ext _ _
      (λ h.
      let r = any_out _ _ h in
      let k = through-grant r.0 r.2 in
      any-stop _ _ k.row k.below (into k.row (rw k.source r.1) k.granted))
      (λ h.
      let k = any_out _ _ h in
      let z = out k.0 k.1 k.2 in
      any-stop _ _ (source_of s k.0) z.0 (grant-through k.0 k.1 z.1))

  -- the answer is yes exactly when a row grants
  pub yes-grants : is_yes (answer (table_of s) u p t) ≡ any_below (rows_of s) (row_grants s u p t)
  unfolding answer table_of
  yes-grants =
      yes-is _ _ ∙ by_rows (roles_of s) (row_grants s u p t) (λ k l g. g) (λ k l g. ((f.entries _ (f.rows k l).alone.derived).source, g))

  module _ (i : ℕ) (l : i < rows_of s) (g : row_grants s u p t i ≡ true) (before : (k : ℕ) → k < i → row_grants s u p t k ≡ false) where
    lower : (j : ℕ) → j < source_of s i → through (table_of s) u p t j ≡ true → ⊥
    lower j m h =
        let k = through-grant j h in
        ⊎_elim
        (λ (a : k.row < i). clash _ k.granted (before k.row a))
        (λ (a : i ≤ k.row). omega (arith, sources-up s f i k.row a k.below, k.source))
        (lt-or-le k.row i)

    pub answer-first : answer (table_of s) u p t ≡ Some (source_of s i)
    unfolding answer table_of
    answer-first =
        lowest-is _ _ _ (f.entries _ (f.rows i l).alone.derived).source (grant-through i l g) (λ j m. not_yes _ (lower j m))

  pub answer-none : ((k : ℕ) → k < rows_of s → row_grants s u p t k ≡ false) → answer (table_of s) u p t ≡ None
  unfolding answer
  answer-none h =
      lowest-none _ _
      (λ j m. not_yes _ (λ e. let k = through-grant j e in clash _ k.granted (h k.row k.below)))

-- the same of the counts that were read
module _ (s : List ℕ) (n : Counts) (o : Opened s n) where
  pub row_inside : (i : ℕ) → i < n.rows → RowInside s (16 + 17 * n.derived + 16 * i)
  unfolding row_of
  row_inside i l =
      let e = counts-are s n o.counts in
      let f = table-fine s o.clear in
      let w = f.header.whole in
      let d = (f.rows i (rw (← e.rows) l)).alone.derived in
      rw e.derived (record { row = omega arith; entry = omega arith })

-- what the loop finds: row i is the first that grants; or no row grants
module _ (s : List ℕ) (n : Counts) (o : Opened s n) (u p t : ℕ) where
  pub first-grants : (i : ℕ) → i < n.rows → any_below i (row_grants s u p t) ≡ false → row_grants s u p t i ≡ true
      → Some (source_of s i) ≡ answer (table_of s) u p t
  first-grants i l b g =
      sym (answer-first s (table-fine s o.clear) u p t i (rw (← (counts-are s n o.counts).rows) l) g (any-no _ _ b))

  pub none-grants : any_below n.rows (row_grants s u p t) ≡ false → None ≡ answer (table_of s) u p t
  none-grants b = sym (answer-none s (table-fine s o.clear) u p t (any-no _ _ (rw (counts-are s n o.counts).rows at b)))
