-- Bytes as long as a table's header says are the bytes of the table that they spell.
-- Assumes nothing.
use Prim.Native.Nat.{ℕ, ◌+◌, ◌*◌, ◌≤◌}
use mathlib.Core.Path.{◌≡◌, refl, sym, ◌∙◌, ap, ap₂}
use mathlib.Core.List.{List, ◌++◌}
use native.Mathlib.Omega.{arith}
use native.Mathlib.Nat.{zero-add}
use lib.ListN.{length}
use lib.Seq.{take-length}
use Rattle.ground.specs.Believed.Sequence.{joined}
use Rattle.ground.proofs.SequenceLaws.{list_of-length}
use Rattle.endian.specs.Believed.Numbers.{Bytes, u8_at, u16_at, bytes8, bytes16, bytes32}
use Rattle.endian.proofs.PartLaws.{part, part_join, part-one, tiles, spell16, spell32, spell64}
use Rattle.table.specs.Believed.TableBytes.{header_bytes, entry_bytes, row_bytes, table_bytes, derived_of, rows_of, entry_at_byte, row_at_byte, entry_of, row_of, table_of}

-- one part after another
both : {x x' y y' : List ℕ} → x ≡ x' → y ≡ y' → x ++ y ≡ x' ++ y'
both p q = ap₂ (λ (x y : List ℕ). x ++ y) p q

module _ (s : List ℕ) (b : Bytes s) where
  spell8 : (at : ℕ) → at + 1 ≤ length s → bytes8 (u8_at s at) ≡ part at 1 s
  spell8 at l = sym (part-one s at (omega arith))

  spell-entry : (at : ℕ) → at + 17 ≤ length s → entry_bytes (entry_at_byte s at) ≡ part at 17 s
  unfolding entry_bytes
  spell-entry at l =
      both (both (spell8 at (omega arith)) (spell64 s b (at + 1) (omega arith)) ∙ part_join s at 1 8) (spell64 s b (at + 9) (omega arith)) ∙ part_join s at 9 8

  spell-row : (at : ℕ) → at + 16 ≤ length s → row_bytes (row_at_byte s at) ≡ part at 16 s
  unfolding row_bytes
  spell-row at l =
      both (both (both (both
      (spell32 s b at (omega arith))
      (spell32 s b (at + 4) (omega arith)) ∙ part_join s at 4 4)
      (spell32 s b (at + 8) (omega arith)) ∙ part_join s at 8 4)
      (spell16 s b (at + 12) (omega arith)) ∙ part_join s at 12 2)
      (spell16 s b (at + 14) (omega arith)) ∙ part_join s at 14 2

  module _ (format : u16_at s 0 ≡ 2) (whole : length s ≡ 16 + 17 * derived_of s + 16 * rows_of s) where
    spell-header : header_bytes (table_of s).cycle (table_of s).users (table_of s).permissions (table_of s).roles (length (table_of s).entries) (length (table_of s).rows) ≡ part 0 16 s
    unfolding header_bytes table_of
    spell-header =
        both (both (both (both (both (both
        (ap bytes16 (sym format) ∙ spell16 s b 0 (omega arith))
        (spell16 s b 2 (omega arith)) ∙ part_join s 0 2 2)
        (spell8 4 (omega arith)) ∙ part_join s 0 4 1)
        (spell8 5 (omega arith)) ∙ part_join s 0 5 1)
        (spell16 s b 6 (omega arith)) ∙ part_join s 0 6 2)
        (ap bytes32 (list_of-length (derived_of s) (entry_of s)) ∙ spell32 s b 8 (omega arith)) ∙ part_join s 0 8 4)
        (ap bytes32 (list_of-length (rows_of s) (row_of s)) ∙ spell32 s b 12 (omega arith)) ∙ part_join s 0 12 4

    spell-entries : joined entry_bytes (table_of s).entries ≡ part 16 (17 * derived_of s) s
    unfolding table_of entry_of
    spell-entries =
        tiles s (entry_of s) entry_bytes 16 (λ k. 17 * k) (λ _. 17) (derived_of s) refl (λ k m. omega arith) (λ k m. spell-entry (16 + 17 * k) (omega arith))

    spell-rows : joined row_bytes (table_of s).rows ≡ part (0 + (16 + 17 * derived_of s)) (16 * rows_of s) s
    unfolding table_of row_of
    spell-rows =
        rw zero-add
        (tiles s (row_of s) row_bytes (16 + 17 * derived_of s) (λ k. 16 * k) (λ _. 16) (rows_of s) refl (λ k m. omega arith)
        (λ k m. spell-row (16 + 17 * derived_of s + 16 * k) (omega arith)))

    pub spelt : table_bytes (table_of s) ≡ s
    unfolding table_bytes part
    spelt =
        both (both spell-header spell-entries ∙ part_join s 0 16 (17 * derived_of s)) spell-rows
        ∙ part_join s 0 (16 + 17 * derived_of s) (16 * rows_of s) ∙ ap (λ (n : ℕ). part 0 n s) (sym whole) ∙ take-length s
