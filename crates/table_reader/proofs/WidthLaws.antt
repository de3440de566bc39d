-- The numbers of a well-formed table fit the widths that its bytes have for them: its bytes are bytes.
--     bytes_fit    the bytes of a well-formed table
-- Assumes nothing.
use Prim.Native.Nat.{ℕ, ◌^◌, ◌≤◌, ◌<◌}
use native.Mathlib.Omega.{arith}
use native.Mathlib.Nat.{lt_of_lt_of_le}
use lib.ListN.{length}
use lib.Pow.{pow_mono}
use Rattle.endian.specs.Believed.Numbers.{Bytes, bytes64}
use Rattle.endian.proofs.ByteLaws.{AllBytes, ◌then◌, in8, in16, in32, in64, in-joined}
use Rattle.minutes.specs.Believed.Minutes.{E}
use Rattle.table.specs.Believed.Table.{Entry, Row, Table}
use Rattle.table.specs.Believed.TableBytes.{header_bytes, entry_bytes, row_bytes, table_bytes}
use Rattle.table.specs.TableWell.{EntryWell, RowWell, TableWell}

-- a set of numbers below n, n at most 64
in-set : (x n : ℕ) → x < 2 ^ n → n ≤ 64 → AllBytes (bytes64 x)
in-set x n l m = in64 {v = x} (lt_of_lt_of_le l (pow_mono m))

module _ (τ : Table) (g : TableWell τ) where
  in-header : AllBytes (header_bytes τ.cycle τ.users τ.permissions τ.roles (length τ.entries) (length τ.rows))
  unfolding header_bytes
  in-header =
      in16 {v = 2} (omega arith) then in16 (omega (arith, g.cycle-most)) then in8 (omega (arith, g.users-most))
      then in8 (omega (arith, g.permissions-most)) then in16 (omega (arith, g.roles-most))
      then in32 g.entries-most then in32 g.rows-most

  in_entry : (e : Entry) → EntryWell τ e → AllBytes (entry_bytes e)
  unfolding entry_bytes
  in_entry e f =
      in8 (omega (arith, f.source, g.roles-most)) then in-set e.users τ.users f.users-below g.users-most
      then in-set e.permissions τ.permissions f.permissions-below g.permissions-most

  in_row : (w : Row) → RowWell τ w → AllBytes (row_bytes w)
  unfolding row_bytes E
  in_row w f =
      let ends : w.window.end ≤ 210379680 = f.ends in
      in32 (omega (arith, f.derived, g.entries-most)) then in32 (omega (arith, f.ordered))
      then in32 (omega arith) then in16 (omega (arith, f.in-cycle, g.cycle-most))
      then in16 (omega (arith, f.in-cycle, g.cycle-most))

  pub bytes_fit : Bytes (table_bytes τ)
  unfolding table_bytes
  bytes_fit =
      let f : AllBytes (table_bytes τ) =
      in-header then in-joined entry_bytes (EntryWell τ) in_entry τ.entries g.entries
      then in-joined row_bytes (RowWell τ) in_row τ.rows g.rows in
      f.each
