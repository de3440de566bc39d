-- The text of a table, line by line, from the bytes that spell it.
--     role-is, roles-none, roles_more    the line of a derived role; no line yet; one line more
--     row_is, rows_none, rows_more       the same of rows
--     table_is                           the table's line, the derived roles and the rows
-- Assumes nothing.
use Prim.Native.Nat.{ℕ, suc, ◌+◌, ◌*◌}
use mathlib.Core.Path.{◌≡◌, refl, sym, ap, ap₂, ◌∙◌}
use mathlib.Core.List.{List, [], ◌∷◌, ◌++◌, append_assoc, append-nil}
use native.Mathlib.Omega.{arith}
use native.Mathlib.Numerals.{add-one}
use lib.ListN.{length}
use Rattle.ground.specs.Believed.Sequence.{list_of, joined}
use Rattle.ground.proofs.SequenceLaws.{list_of-length, joined-list_of}
use Rattle.endian.specs.Believed.Numbers.{u8_at, u16_at, u32_at, u64_at}
use Rattle.table.specs.Believed.Table.{Entry}
use Rattle.table.specs.Believed.TableBytes.{cycle_of, derived_of, rows_of, entry_of, row_at_byte, row_of, table_of}
use Rattle.listing_lines.specs.Believed.Lines.{table_line, role_line, row_line}
use Rattle.listing_table.specs.Believed.TableText.{role_text, row_text, roles_text, table_text}

-- a list of derived roles with one more at its end
roles-append : (d : ℕ) (es : List Entry) (e : Entry) → roles_text d (es ++ (e ∷ [])) ≡ roles_text d es ++ role_text (d + length es) e
unfolding roles_text
roles-append d [] e = append-nil (role_text d e) ∙ ap (λ (k : ℕ). role_text k e) (omega arith)
roles-append d (x ∷ es) e =
    ap (λ (l : List ℕ). role_text d x ++ l) (roles-append (suc d) es e) ∙ sym (append_assoc (role_text d x) (roles_text (suc d) es) (role_text (suc d + length es) e))
    ∙ ap (λ (k : ℕ). (role_text d x ++ roles_text (suc d) es) ++ role_text k e) (omega arith)

pub roles-none : (f : ℕ → Entry) → [] ≡ roles_text 0 (list_of 0 f)
unfolding roles_text list_of
roles-none f = refl

pub roles_more : (f : ℕ → Entry) (d : ℕ) → roles_text 0 (list_of d f) ++ role_text d (f d) ≡ roles_text 0 (list_of (d + 1) f)
unfolding list_of
roles_more f d =
    ap (λ (k : ℕ). roles_text 0 (list_of d f) ++ role_text k (f d)) (omega (arith, list_of-length d f)) ∙ sym (roles-append 0 (list_of d f) (f d))
    ∙ ap (λ (k : ℕ). roles_text 0 (list_of k f)) (sym (add-one d))

module _ (t : List ℕ) where
  pub role-is : (d : ℕ) {source users permissions : ℕ} → source ≡ u8_at t (16 + 17 * d) → users ≡ u64_at t (16 + 17 * d + 1) → permissions ≡ u64_at t (16 + 17 * d + 9)
      → role_line d source users permissions ≡ role_text d (entry_of t d)
  unfolding role_text entry_of
  role-is d p q r = λ i. role_line d (p i) (q i) (r i)

  pub row_is : (at : ℕ) {derived begin end offset length : ℕ} → derived ≡ u32_at t at → begin ≡ u32_at t (at + 4) → end ≡ u32_at t (at + 8)
      → offset ≡ u16_at t (at + 12) → length ≡ u16_at t (at + 14) → row_line derived begin end offset length ≡ row_text (row_at_byte t at)
  unfolding row_text
  row_is at p q r v w = λ i. row_line (p i) (q i) (r i) (v i) (w i)

  pub rows_none : [] ≡ joined row_text (list_of 0 (row_of t))
  unfolding joined list_of
  rows_none = refl

  pub rows_more : (k at : ℕ) → at ≡ 16 + 17 * derived_of t + 16 * k
      → joined row_text (list_of k (row_of t)) ++ row_text (row_at_byte t at) ≡ joined row_text (list_of (k + 1) (row_of t))
  unfolding row_of
  rows_more k at e =
      ap (λ (p : ℕ). joined row_text (list_of k (row_of t)) ++ row_text (row_at_byte t p)) e ∙ sym (joined-list_of row_text (row_of t) k)
      ∙ ap (λ (m : ℕ). joined row_text (list_of m (row_of t))) (sym (add-one k))

  pub table_is : {cycle d n : ℕ} → cycle ≡ cycle_of t → d ≡ derived_of t → n ≡ rows_of t
      → table_line cycle d n ++ roles_text 0 (list_of d (entry_of t)) ++ joined row_text (list_of n (row_of t)) ≡ table_text (table_of t)
  unfolding table_text table_of
  table_is p q r =
      (λ i. table_line (p i) (q i) (r i) ++ roles_text 0 (list_of (q i) (entry_of t)) ++ joined row_text (list_of (r i) (row_of t)))
      ∙ ap₂
      (λ (d n : ℕ). table_line (cycle_of t) d n ++ roles_text 0 (list_of (derived_of t) (entry_of t)) ++ joined row_text (list_of (rows_of t) (row_of t)))
      (sym (list_of-length (derived_of t) (entry_of t)))
      (sym (list_of-length (rows_of t) (row_of t)))
