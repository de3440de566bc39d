-- The reader's rules over the bytes, and over the table that they spell: the same rules.
--     fine-well, well-fine    from the one to the other
-- Assumes nothing.
use Rattle.endian.proofs.PartLaws.{below32}
use Prim.Native.Nat.{ℕ, zero, suc, ◌+◌, ◌*◌, ◌≤◌, ◌<◌}
use mathlib.Core.Path.{◌≡◌, refl, sym, subst}
use mathlib.Core.Bool.{true}
use mathlib.Core.Logic.{◌↔◌}
use mathlib.Core.List.{List, [], ◌∷◌}
use native.Mathlib.Omega.{arith}
use native.Mathlib.Nat.{not-suc-le-zero, le_of_suc-le-suc}
use lib.ListN.{length, get_or}
use Rattle.ground.specs.Believed.Sequence.{list_of}
use Rattle.ground.proofs.SequenceLaws.{list_of-length, list_of-cons, get-list_of, all-list_of, list_of-all, list_of-next}
use Rattle.endian.specs.Believed.Numbers.{Bytes, u16_at}
use Rattle.table.specs.Believed.Table.{Entry, Row, Table, no_entry}
use Rattle.table.specs.Believed.TableBytes.{derived_of, rows_of, entry_of, row_of, table_of}
use Rattle.table.specs.Believed.TableRefusals.{source_before, source_of, follows_before}
use Rattle.table.specs.TableWell.{EntryWell, Ascending, RowWell, Follows, InOrder, TableWell}
use Rattle.table_reader.proofs.FollowsLaws.{follows_of}
use Rattle.table.proofs.FineLaws.{EntryFine, RowFine, TableFine}
use Rattle.table_reader.proofs.RowsLaws.{RowAfter, source_is, row_next}

-- neighbours in a list by index
ascending-list_of : (r n : ℕ) (f : ℕ → Entry) → (0 < n → r ≤ (f 0).source) → ((k : ℕ) → suc k < n → (f k).source ≤ (f (suc k)).source) → Ascending r (list_of n f)
ascending-list_of r zero f a h = unfold list_of in tt
ascending-list_of r (suc n) f a h =
    rw list_of-cons
    (a (omega arith), ascending-list_of (f 0).source n (λ k. f (suc k)) (λ l. h 0 (omega arith)) (λ k l. h (suc k) (omega arith)))

ascending-at : (r : ℕ) (es : List Entry) (d : Entry) → Ascending r es → (i : ℕ) → suc i < length es → (get_or es i d).source ≤ (get_or es (suc i) d).source
ascending-at r [] d a i l = absurd (not-suc-le-zero l)
ascending-at r (e ∷ []) d a i l = absurd (omega arith)
ascending-at r (e ∷ e' ∷ es) d a zero l = a.1.0
ascending-at r (e ∷ e' ∷ es) d a (suc i) l = ascending-at e.source (e' ∷ es) d a.1 i (le_of_suc-le-suc l)

module _ (τ : Table) where
  in-order-cons : (v : Row) (ws : List Row) → (0 < length ws → Follows τ v (get_or ws 0 v)) → InOrder τ ws → InOrder τ (v ∷ ws)
  in-order-cons v [] h o = tt
  in-order-cons v (w ∷ ws) h o = (h (omega arith), o)

  in-order-list_of : (n : ℕ) (f : ℕ → Row) → ((k : ℕ) → suc k < n → Follows τ (f k) (f (suc k))) → InOrder τ (list_of n f)
  in-order-list_of zero f h = unfold list_of in tt
  in-order-list_of (suc n) f h =
      rw list_of-cons
      (in-order-cons (f 0) (list_of n (λ k. f (suc k)))
      (λ l. let m : 0 < n = rw list_of-length at l in subst (Follows τ (f 0)) (sym (get-list_of n (λ k. f (suc k)) (f 0) 0 m)) (h 0 (omega arith)))
      (in-order-list_of n (λ k. f (suc k)) (λ k l. h (suc k) (omega arith))))

  in-order-at : (ws : List Row) (d : Row) → InOrder τ ws → (i : ℕ) → suc i < length ws → Follows τ (get_or ws i d) (get_or ws (suc i) d)
  in-order-at [] d o i l = absurd (not-suc-le-zero l)
  in-order-at (v ∷ []) d o i l = absurd (omega arith)
  in-order-at (v ∷ w ∷ ws) d o zero l = o.0
  in-order-at (v ∷ w ∷ ws) d o (suc i) l = in-order-at (w ∷ ws) d o.1 i (le_of_suc-le-suc l)

module _ (s : List ℕ) where
  -- one entry, one row, and a row with the next
  entry-well : (d : ℕ) → EntryFine s d → EntryWell (table_of s) (entry_of s d)
  unfolding table_of
  entry-well d f =
      record {
        source = f.source;
        some-user = f.some-user;
        some-permission = f.some-permission;
        users-below = f.users-below;
        permissions-below = f.permissions-below;
      }

  entry-fine : (d : ℕ) → EntryWell (table_of s) (entry_of s d) → source_before s d ≤ (entry_of s d).source → EntryFine s d
  unfolding table_of
  entry-fine d g a =
      record {
        source = g.source;
        ascending = a;
        some-user = g.some-user;
        some-permission = g.some-permission;
        users-below = g.users-below;
        permissions-below = g.permissions-below;
      }

  entries-length : length (table_of s).entries ≡ derived_of s
  unfolding table_of
  entries-length = list_of-length (derived_of s) (entry_of s)

  row-well : (i : ℕ) → RowFine s i → RowWell (table_of s) (row_of s i)
  unfolding table_of
  row-well i f =
      record {
        derived = rw entries-length f.alone.derived;
        ordered = f.alone.ordered;
        ends = f.alone.ends;
        some-length = f.alone.some-length;
        in-cycle = f.alone.in-cycle;
      }

  names : (i : ℕ) → RowWell (table_of s) (row_of s i) → (row_of s i).derived < derived_of s
  names i g = rw entries-length at g.derived

  row_fine : (i : ℕ) → RowWell (table_of s) (row_of s i) → follows_before s i ≡ true → RowFine s i
  unfolding table_of
  row_fine i g o =
      record {
        alone = record { derived = names i g; ordered = g.ordered; ends = g.ends; some-length = g.some-length; in-cycle = g.in-cycle };
        follows = o;
      }

  follows-row : (i j : ℕ) → (row_of s i).derived < derived_of s → (row_of s j).derived < derived_of s → RowAfter s i j ↔ Follows (table_of s) (row_of s i) (row_of s j)
  follows-row i j l m = rw (source_is s i l, source_is s j m) ((λ h. h), (λ h. h))

  pub fine-well : Bytes s → TableFine s → TableWell (table_of s)
  unfolding table_of source_before
  fine-well b f =
      let h = f.header in
      record {
        cycle-some = h.cycle-some;
        cycle-most = h.cycle-most;
        users-most = h.users-most;
        permissions-most = h.permissions-most;
        roles-most = h.roles-most;
        entries-most = rw list_of-length (below32 s b 8);
        rows-most = rw list_of-length (below32 s b 12);
        entries = all-list_of (EntryWell (table_of s)) (derived_of s) (entry_of s) (λ d l. entry-well d (f.entries d l));
        ascending = ascending-list_of 0 (derived_of s) (entry_of s) (λ l. omega arith) (λ d l. (f.entries (suc d) l).ascending);
        rows = all-list_of (RowWell (table_of s)) (rows_of s) (row_of s) (λ i l. row-well i (f.rows i l));
        in_order = in-order-list_of (table_of s) (rows_of s) (row_of s)
            (λ i l. (follows-row i (suc i) (f.rows i (omega arith)).alone.derived (f.rows (suc i) l).alone.derived).0 (row_next s f i l));
      }

  module _ (g : TableWell (table_of s)) where
    each_row : (i : ℕ) → i < rows_of s → RowWell (table_of s) (row_of s i)
    unfolding table_of
    each_row i l = list_of-all (RowWell (table_of s)) (rows_of s) (row_of s) g.rows i l

    ascends : (d : ℕ) → d < derived_of s → source_before s d ≤ (entry_of s d).source
    unfolding table_of source_before
    ascends zero l = omega arith
    ascends (suc d) l = list_of-next (λ e e'. e.source ≤ e'.source) (derived_of s) (entry_of s) no_entry (ascending-at 0 (table_of s).entries no_entry g.ascending) d l

    follows-before : (i : ℕ) → i < rows_of s → follows_before s i ≡ true
    unfolding table_of follows_before
    follows-before zero l = refl
    follows-before (suc i) l =
        follows_of (source_of s i) (row_of s i).window (source_of s (suc i)) (row_of s (suc i)).window
        ((follows-row i (suc i) (names i (each_row i (omega arith))) (names (suc i) (each_row (suc i) l))).1
        (list_of-next (Follows (table_of s)) (rows_of s) (row_of s) (row_of s 0) (in-order-at (table_of s) (table_of s).rows (row_of s 0) g.in_order) i l))

    pub well-fine : u16_at s 0 ≡ 2 → length s ≡ 16 + 17 * derived_of s + 16 * rows_of s → TableFine s
    unfolding table_of
    well-fine format whole =
        record {
          header = record {
            format = format;
            cycle-some = g.cycle-some;
            cycle-most = g.cycle-most;
            users-most = g.users-most;
            permissions-most = g.permissions-most;
            roles-most = g.roles-most;
            whole = whole;
          };
          entries = λ d l. entry-fine d (list_of-all (EntryWell (table_of s)) (derived_of s) (entry_of s) g.entries d l) (ascends d l);
          rows = λ i l. row_fine i (each_row i l) (follows-before i l);
        }
