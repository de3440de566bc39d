-- The table's bytes (document 01, "The table's bytes").
use Rattle.std.specs.Prelude.{ℕ, ◌+◌, ◌*◌, List, ◌++◌, length}
use Rattle.ground.specs.Believed.Sequence.{list_of, joined}
use Rattle.endian.specs.Believed.Numbers.{u8_at, u16_at, u32_at, u64_at, bytes8, bytes16, bytes32, bytes64}
use Rattle.table.specs.Believed.Table.{Entry, Row, Table}

-- the bytes that spell a table: header, entries, rows
unfoldable pub header_bytes : ℕ → ℕ → ℕ → ℕ → ℕ → ℕ → List ℕ
header_bytes cycle users permissions roles d n =
    bytes16 2 ++ bytes16 cycle ++ bytes8 users ++ bytes8 permissions ++ bytes16 roles ++ bytes32 d ++ bytes32 n

unfoldable pub entry_bytes : Entry → List ℕ
entry_bytes e = bytes8 e.source ++ bytes64 e.users ++ bytes64 e.permissions

unfoldable pub row_bytes : Row → List ℕ
row_bytes w =
    bytes32 w.derived ++ bytes32 w.window.begin ++ bytes32 w.window.end ++ bytes16 w.window.offset ++ bytes16 w.window.length

unfoldable pub table_bytes : Table → List ℕ
table_bytes τ =
    header_bytes τ.cycle τ.users τ.permissions τ.roles (length τ.entries) (length τ.rows)
    ++ joined entry_bytes τ.entries ++ joined row_bytes τ.rows

-- what bytes spell
abbrev pub cycle_of : List ℕ → ℕ
cycle_of s = u16_at s 2

abbrev pub users_of : List ℕ → ℕ
users_of s = u8_at s 4

abbrev pub permissions_of : List ℕ → ℕ
permissions_of s = u8_at s 5

abbrev pub roles_of : List ℕ → ℕ
roles_of s = u16_at s 6

abbrev pub derived_of : List ℕ → ℕ
derived_of s = u32_at s 8

abbrev pub rows_of : List ℕ → ℕ
rows_of s = u32_at s 12

-- the entry and the row at a position
abbrev pub entry_at_byte : List ℕ → ℕ → Entry
entry_at_byte s at = record { source = u8_at s at; users = u64_at s (at + 1); permissions = u64_at s (at + 9) }

abbrev pub row_at_byte : List ℕ → ℕ → Row
row_at_byte s at =
    record {
      derived = u32_at s at;
      window = record { begin = u32_at s (at + 4); end = u32_at s (at + 8); offset = u16_at s (at + 12); length = u16_at s (at + 14) };
    }

-- entry d and row i
unfoldable pub entry_of : List ℕ → ℕ → Entry
entry_of s d = entry_at_byte s (16 + 17 * d)

unfoldable pub row_of : List ℕ → ℕ → Row
row_of s i = row_at_byte s (16 + 17 * derived_of s + 16 * i)

unfoldable pub table_of : List ℕ → Table
table_of s =
    record {
      cycle = cycle_of s;
      users = users_of s;
      permissions = permissions_of s;
      roles = roles_of s;
      entries = list_of (derived_of s) (entry_of s);
      rows = list_of (rows_of s) (row_of s);
    }
