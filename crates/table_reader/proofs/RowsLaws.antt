-- The rows of an accepted table, any two of them, and the entries that they name.
--     entry-is, source_is    an entry of the table is the entry in the bytes; so is the source role of a row
--     rows-after             each row comes after every earlier one
--     rows-one               rows of one source role that cover one minute are one row
--     enabling               the row that enables a derived role
-- Assumes nothing.
use Rattle.ground.proofs.BoolLaws.{and_yes}
use Prim.Native.Nat.{ℕ, zero, suc, ◌<◌}
use mathlib.Core.Path.{◌≡◌, sym, ◌∙◌, ap}
use mathlib.Core.Logic.{⊎_elim}
use mathlib.Core.Bool.{true}
use mathlib.Core.List.{List}
use native.Mathlib.Omega.{arith}
use native.Mathlib.Nat.{not-suc-le-zero, le_of_suc-le-suc, eq-or-lt_of_le, le_of_lt}
use borrow.Author.Tests.{eqb-true}
use Rattle.ground.proofs.SearchLaws.{list_any, any_out}
use Rattle.ground.proofs.SequenceLaws.{get-list_of}
use Rattle.minutes.specs.Believed.Minutes.{covers}
use Rattle.minutes.proofs.WindowLaws.{In, covers-in}
use Rattle.table.specs.Believed.Table.{Entry, no_entry, entry_at, enabled}
use Rattle.table.specs.Believed.TableBytes.{cycle_of, derived_of, rows_of, entry_of, row_of, table_of}
use Rattle.table.specs.Believed.TableRefusals.{source_of, follows_before}
use Rattle.table_reader.proofs.FollowsLaws.{After, after-of, after-trans, after-apart}
use Rattle.table.proofs.FineLaws.{TableFine}

-- row j comes after row i
abbrev pub RowAfter : List ℕ → ℕ → ℕ → Type 0
RowAfter s i j = After (source_of s i) (row_of s i).window (source_of s j) (row_of s j).window

-- a row that enables derived role d at t
pub record Enabling (s : List ℕ) (d t : ℕ) : Type 0 where
  pub row : ℕ
  pub below : row < rows_of s
  pub enables : (row_of s row).derived ≡ d
  pub covered : covers (cycle_of s) (row_of s row).window t ≡ true
  pub of-source : source_of s row ≡ (entry_at (table_of s) d).source

module _ (s : List ℕ) where
  pub entry-is : (d : ℕ) → d < derived_of s → entry_at (table_of s) d ≡ entry_of s d
  unfolding table_of
  entry-is d l = get-list_of (derived_of s) (entry_of s) no_entry d l

  pub source_is : (i : ℕ) → (row_of s i).derived < derived_of s → (entry_at (table_of s) (row_of s i).derived).source ≡ source_of s i
  source_is i l = ap (λ (e : Entry). e.source) (entry-is (row_of s i).derived l)

  module _ (f : TableFine s) where
    pub row_next : (i : ℕ) → suc i < rows_of s → RowAfter s i (suc i)
    unfolding follows_before
    row_next i l = after-of (source_of s i) (row_of s i).window (source_of s (suc i)) (row_of s (suc i)).window (f.rows (suc i) l).follows

    pub rows-after : (i j : ℕ) → i < j → j < rows_of s → RowAfter s i j
    rows-after i zero l m = absurd (not-suc-le-zero l)
    rows-after i (suc j) l m =
        ⊎_elim
        (λ (e : i ≡ j). rw e (row_next j m))
        (λ (k : i < j).
        after-trans _ (row_of s i).window _ (row_of s j).window _ (row_of s (suc j)).window (le_of_lt (f.rows j (omega arith)).alone.ordered)
        (rows-after i j k (omega arith)) (row_next j m))
        (eq-or-lt_of_le (le_of_suc-le-suc l))

    apart : (i j t : ℕ) → i < j → j < rows_of s → source_of s i ≡ source_of s j → In (cycle_of s) (row_of s i).window t
        → In (cycle_of s) (row_of s j).window t → ⊥
    apart i j t l m e p q = after-apart _ _ _ _ (cycle_of s) t e (rows-after i j l m) p q

    pub rows-one : (i j t : ℕ) → i < rows_of s → j < rows_of s → source_of s i ≡ source_of s j → covers (cycle_of s) (row_of s i).window t ≡ true
        → covers (cycle_of s) (row_of s j).window t ≡ true → i ≡ j
    rows-one i j t l m e p q =
        let a : In (cycle_of s) (row_of s i).window t = covers-in p in
        let b : In (cycle_of s) (row_of s j).window t = covers-in q in
        let x : ¬ (i < j) = λ k. apart i j t k m e a b in
        let y : ¬ (j < i) = λ k. apart j i t k l (sym e) b a in
        omega arith

    pub enabling : (d t : ℕ) → enabled (table_of s) d t ≡ true → Enabling s d t
    unfolding table_of enabled
    enabling d t h =
        let r = any_out (rows_of s) _ (sym (list_any _ (rows_of s) (row_of s)) ∙ h) in
        let c = and_yes _ _ r.2 in
        let e = eqb-true _ _ c.0 in
        record {
          row = r.0;
          below = r.1;
          enables = e;
          covered = c.1;
          of-source = sym (source_is r.0 (f.rows r.0 r.1).alone.derived) ∙ ap (λ (k : ℕ). (entry_at (table_of s) k).source) e;
        }
