-- What the reader of tables accepts, that a table can be read back, and that at most one derived role of a role is enabled at a minute.
-- Assumes nothing.
use Prim.Native.Nat.{ℕ, ◌<◌}
use mathlib.Core.Path.{◌≡◌, sym, ◌∙◌, ap, subst}
use mathlib.Core.Logic.{◌↔◌}
use mathlib.Core.Bool.{true}
use mathlib.Core.List.{List}
use native.Mathlib.Omega.{arith}
use Rattle.endian.specs.Believed.Numbers.{Bytes}
use Rattle.endian.proofs.StandsLaws.{at-whole}
use Rattle.minutes.specs.Believed.Minutes.{covers}
use Rattle.table.specs.Believed.Table.{Table, entry_at, enabled}
use Rattle.table.specs.Believed.TableBytes.{table_bytes, table_of, cycle_of, rows_of, row_of}
use Rattle.table.specs.Believed.TableRefusals.{source_of, table_judged}
use Rattle.table.specs.TableWell.{TableWell}
use Rattle.table.proofs.FineLaws.{table-fine, table-clear}
use Rattle.table_reader.proofs.SpeltLaws.{spelt}
use Rattle.table_reader.proofs.ReadBackLaws.{HeaderIs, header_is, bytes-length, spells}
use Rattle.table_reader.proofs.WellLaws.{fine-well, well-fine}
use Rattle.table_reader.proofs.WidthLaws.{bytes_fit}
use Rattle.table_reader.proofs.RowsLaws.{RowAfter, rows-after, rows-one, enabling}

-- a table's bytes spell that table, and no other table has them
pub read_back : (τ : Table) → table_of (table_bytes τ) ≡ τ
read_back τ = spells (table_bytes τ) τ (at-whole (table_bytes τ))

pub unique : (τ σ : Table) → table_bytes τ ≡ table_bytes σ → τ ≡ σ
unique τ σ e = sym (read_back τ) ∙ ap table_of e ∙ read_back σ

-- the bytes of a well-formed table are accepted
pub well-accepted : (τ : Table) → TableWell τ → table_judged (table_bytes τ) ≡ 0
well-accepted τ g =
    let s = table_bytes τ in
    let h : HeaderIs s τ = header_is s τ (at-whole s) in
    table-clear s (well-fine s (subst TableWell (sym (read_back τ)) g) h.format (omega (arith, bytes-length τ)))

-- which are bytes: each of its numbers fits the width that the format has for it
pub well-bytes : (τ : Table) → TableWell τ → Bytes (table_bytes τ)
well-bytes = bytes_fit

module _ (s : List ℕ) (b : Bytes s) (a : table_judged s ≡ 0) where
  -- accepted bytes spell a well-formed table, and are its bytes
  pub accepted-well : TableWell (table_of s)
  accepted-well = fine-well s b (table-fine s a)

  pub accepted-spelt : table_bytes (table_of s) ≡ s
  accepted-spelt = spelt s b (table-fine s a).header.format (table-fine s a).header.whole

-- bytes are accepted exactly when they are the bytes of a well-formed table
pub accepted-iff : (s : List ℕ) → Bytes s → (table_judged s ≡ 0) ↔ ((τ : Table) × TableWell τ × (table_bytes τ ≡ s))
accepted-iff s b = (
  (λ a. (table_of s, accepted-well s b a, accepted-spelt s b a)),
  (λ w. ap table_judged (sym w.2) ∙ well-accepted w.0 w.1),
)

module _ (s : List ℕ) (a : table_judged s ≡ 0) where
  -- of two rows the later is of a greater source role; or of the same one, in the same era and not before the end of the earlier row's phase, or
  -- in a later era
  pub in_order : (i j : ℕ) → i < j → j < rows_of s → RowAfter s i j
  in_order = rows-after s (table-fine s a)

  -- at most one row of a source role enables at a minute
  pub one-row : (i j t : ℕ) → i < rows_of s → j < rows_of s → source_of s i ≡ source_of s j → covers (cycle_of s) (row_of s i).window t ≡ true
      → covers (cycle_of s) (row_of s j).window t ≡ true → i ≡ j
  one-row = rows-one s (table-fine s a)

  -- at most one derived role of a role is enabled at a minute
  pub one-derived : (d e t : ℕ) → enabled (table_of s) d t ≡ true → enabled (table_of s) e t ≡ true
      → (entry_at (table_of s) d).source ≡ (entry_at (table_of s) e).source → d ≡ e
  one-derived d e t p q h =
      let f = table-fine s a in
      let i = enabling s f d t p in
      let j = enabling s f e t q in
      let same = one-row i.row j.row t i.below j.below (i.of-source ∙ h ∙ sym j.of-source) i.covered j.covered in
      sym i.enables ∙ ap (λ (k : ℕ). (row_of s k).derived) same ∙ j.enables
