-- A table's bytes spell that table, whatever its numbers are: a number too great for its width spoils the bytes, and still is read back.
--     bytes-length         the length of a table's bytes
--     header_is, spells    what bytes say that begin as a table's do
-- Assumes nothing.
use Rattle.ground.proofs.SequenceLaws.{list_of-is}
use Prim.Native.Nat.{ℕ, ◌+◌, ◌*◌}
use mathlib.Core.Path.{◌≡◌, refl}
use mathlib.Core.List.{List, [], ◌++◌}
use native.Mathlib.Omega.{arith}
use lib.ListN.{length, length-append}
use Rattle.ground.specs.Believed.Sequence.{joined}
use Rattle.endian.specs.Believed.Numbers.{u8_at, u16_at, bytes8, bytes16, bytes32, bytes64}
use Rattle.endian.proofs.StandsLaws.{At, at_left, at_right, at_moved, at_byte, at16, at32, at64, joined_length, item-at}
use Rattle.table.specs.Believed.Table.{Entry, Row, Table, no_entry}
use Rattle.table.specs.Believed.TableBytes.{header_bytes, entry_bytes, row_bytes, table_bytes, cycle_of, users_of, permissions_of, roles_of, derived_of, rows_of, entry_at_byte, row_at_byte, entry_of, row_of, table_of}

entry-width : (e : Entry) → length (entry_bytes e) ≡ 17
unfolding entry_bytes bytes64 bytes32 bytes16
entry-width e = refl

row-width : (w : Row) → length (row_bytes w) ≡ 16
unfolding row_bytes bytes32 bytes16
row-width w = refl

module _ {s : List ℕ} where
  -- an entry and a row, where their bytes stand
  entry_here : (at : ℕ) (e : Entry) → At s at (entry_bytes e) → entry_at_byte s at ≡ e
  unfolding entry_bytes bytes64 bytes32 bytes16
  entry_here at e w =
      let l = bytes8 e.source ++ bytes64 e.users in
      let w1 : At s at l = at_left l (bytes64 e.permissions) w in
      let p : u8_at s at ≡ e.source = at_byte e.source (bytes64 e.users) w1 in
      let q = at64 e.users (at_right (bytes8 e.source) (bytes64 e.users) w1) in
      let r = at64 e.permissions (at_right l (bytes64 e.permissions) w) in
      λ i. record { source = p i; users = q i; permissions = r i }

  row_here : (at : ℕ) (w : Row) → At s at (row_bytes w) → row_at_byte s at ≡ w
  unfolding row_bytes bytes32 bytes16
  row_here at w h =
      let b0 = bytes32 w.derived in
      let b1 = bytes32 w.window.begin in
      let b2 = bytes32 w.window.end in
      let b3 = bytes16 w.window.offset in
      let b4 = bytes16 w.window.length in
      let l1 = b0 ++ b1 in
      let l2 = l1 ++ b2 in
      let l3 = l2 ++ b3 in
      let h3 : At s at l3 = at_left l3 b4 h in
      let h2 : At s at l2 = at_left l2 b3 h3 in
      let h1 : At s at l1 = at_left l1 b2 h2 in
      let p0 = at32 w.derived (at_left b0 b1 h1) in
      let p1 = at32 w.window.begin (at_right b0 b1 h1) in
      let p2 = at32 w.window.end (at_right l1 b2 h2) in
      let p3 = at16 w.window.offset (at_right l2 b3 h3) in
      let p4 = at16 w.window.length (at_right l3 b4 h) in
      λ i. record { derived = p0 i; window = record { begin = p1 i; end = p2 i; offset = p3 i; length = p4 i } }

-- what a table's header says
pub record HeaderIs (s : List ℕ) (τ : Table) : Type 0 where
  pub format : u16_at s 0 ≡ 2
  pub cycle : cycle_of s ≡ τ.cycle
  pub users : users_of s ≡ τ.users
  pub permissions : permissions_of s ≡ τ.permissions
  pub roles : roles_of s ≡ τ.roles
  pub derived : derived_of s ≡ length τ.entries
  pub rows : rows_of s ≡ length τ.rows

abbrev header_of : Table → List ℕ
header_of τ = header_bytes τ.cycle τ.users τ.permissions τ.roles (length τ.entries) (length τ.rows)

header-here : (s : List ℕ) (τ : Table) → At s 0 (header_of τ) → HeaderIs s τ
unfolding header_bytes bytes32 bytes16
header-here s τ w =
    let b0 = bytes16 2 in
    let b1 = bytes16 τ.cycle in
    let b2 = bytes8 τ.users in
    let b3 = bytes8 τ.permissions in
    let b4 = bytes16 τ.roles in
    let b5 = bytes32 (length τ.entries) in
    let b6 = bytes32 (length τ.rows) in
    let l1 = b0 ++ b1 in
    let l2 = l1 ++ b2 in
    let l3 = l2 ++ b3 in
    let l4 = l3 ++ b4 in
    let l5 = l4 ++ b5 in
    let w5 : At s 0 l5 = at_left l5 b6 w in
    let w4 : At s 0 l4 = at_left l4 b5 w5 in
    let w3 : At s 0 l3 = at_left l3 b4 w4 in
    let w2 : At s 0 l2 = at_left l2 b3 w3 in
    let w1 : At s 0 l1 = at_left l1 b2 w2 in
    record {
      format = at16 2 (at_left b0 b1 w1);
      cycle = at16 τ.cycle (at_right b0 b1 w1);
      users = at_byte τ.users [] (at_right l1 b2 w2);
      permissions = at_byte τ.permissions [] (at_right l2 b3 w3);
      roles = at16 τ.roles (at_right l3 b4 w4);
      derived = at32 (length τ.entries) (at_right l4 b5 w5);
      rows = at32 (length τ.rows) (at_right l5 b6 w);
    }

header-width : (τ : Table) → length (header_of τ) ≡ 16
unfolding header_bytes bytes32 bytes16
header-width τ = refl

-- the length of a table's bytes
pub bytes-length : (τ : Table) → length (table_bytes τ) ≡ 16 + 17 * length τ.entries + 16 * length τ.rows
unfolding table_bytes
bytes-length τ =
    omega (
      arith,
      length-append (header_of τ ++ joined entry_bytes τ.entries) (joined row_bytes τ.rows),
      length-append (header_of τ) (joined entry_bytes τ.entries),
      header-width τ,
      joined_length entry_bytes 17 entry-width τ.entries,
      joined_length row_bytes 16 row-width τ.rows,
    )

abbrev no_row : Row
no_row = record { derived = 0; window = record { begin = 0; end = 0; offset = 0; length = 0 } }

-- bytes that begin as a table's bytes do say that table's header, and spell that table
module _ (s : List ℕ) (τ : Table) (w : At s 0 (table_bytes τ)) where
  abbrev Es : List ℕ
  Es = joined entry_bytes τ.entries

  abbrev Rs : List ℕ
  Rs = joined row_bytes τ.rows

  front : At s 0 (header_of τ ++ Es)
  unfolding table_bytes
  front = at_left (header_of τ ++ Es) Rs w

  pub header_is : HeaderIs s τ
  header_is = header-here s τ (at_left (header_of τ) Es front)

  entries-here : At s 16 Es
  entries-here = at_moved Es (omega (arith, header-width τ)) (at_right (header_of τ) Es front)

  rows-here : At s (16 + 17 * derived_of s) Rs
  unfolding table_bytes
  rows-here =
      at_moved Rs
      (omega (arith, length-append (header_of τ) Es, header-width τ, joined_length entry_bytes 17 entry-width τ.entries, header_is.derived))
      (at_right (header_of τ ++ Es) Rs w)

  pub spells : table_of s ≡ τ
  unfolding table_of entry_of row_of
  spells =
      let h = header_is in
      let es = list_of-is (derived_of s) (entry_of s) τ.entries no_entry h.derived
      (λ i l. entry_here (16 + 17 * i) _ (item-at entry_bytes 17 entry-width τ.entries 16 entries-here no_entry i l)) in
      let rs = list_of-is (rows_of s) (row_of s) τ.rows no_row h.rows
      (λ i l. row_here (16 + 17 * derived_of s + 16 * i) _ (item-at row_bytes 16 row-width τ.rows (16 + 17 * derived_of s) rows-here no_row i l)) in
      λ i.
      record {
        cycle = h.cycle i;
        users = h.users i;
        permissions = h.permissions i;
        roles = h.roles i;
        entries = es i;
        rows = rs i;
      }
