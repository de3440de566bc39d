-- The rota's bytes (document 01, "The rota's bytes").
use Rattle.std.specs.Prelude.{ℕ, ◌+◌, ◌*◌, List, ◌++◌, length}
use Rattle.ground.specs.Believed.Sequence.{list_of, joined}
use Rattle.endian.specs.Believed.Numbers.{u8_at, u16_at, bytes8, bytes16}
use Rattle.hours.specs.Believed.Hours.{ref_of, ref_byte}
use Rattle.hours.specs.Believed.HoursBytes.{hours_bytes, record_at, hours_from}
use Rattle.hours.specs.declared.HoursRef.{HoursRef}
use Rattle.rota.specs.Believed.Rota.{Row, Rota}

-- the bytes that spell a rota: header, hours records, role bytes, volunteer rows, right rows
unfoldable pub header_bytes : Rota → List ℕ
header_bytes ρ =
    bytes16 ρ.format ++ bytes16 ρ.cycle ++ bytes8 (length ρ.hours) ++ bytes8 ρ.users ++ bytes8 ρ.permissions ++ bytes8 (length ρ.roles)
    ++ bytes16 (length ρ.user-rows) ++ bytes16 (length ρ.permission-rows)

unfoldable pub ref_bytes : HoursRef → List ℕ
ref_bytes h = bytes8 (ref_byte h)

unfoldable pub row_bytes : Row → List ℕ
row_bytes w = bytes8 w.number ++ bytes8 w.role ++ ref_bytes w.hours

unfoldable pub rota_bytes : Rota → List ℕ
rota_bytes ρ =
    header_bytes ρ ++ joined hours_bytes ρ.hours ++ joined ref_bytes ρ.roles ++ joined row_bytes ρ.user-rows
    ++ joined row_bytes ρ.permission-rows

-- what bytes spell: the header's length, and its fields
unfoldable pub header_length : List ℕ → ℕ
header_length s = 12

abbrev pub format_of : List ℕ → ℕ
format_of s = u16_at s 0

abbrev pub cycle_of : List ℕ → ℕ
cycle_of s = u16_at s 2

abbrev pub hours_of : List ℕ → ℕ
hours_of s = u8_at s 4

abbrev pub users_of : List ℕ → ℕ
users_of s = u8_at s 5

abbrev pub permissions_of : List ℕ → ℕ
permissions_of s = u8_at s 6

abbrev pub roles_of : List ℕ → ℕ
roles_of s = u8_at s 7

abbrev pub user_rows_of : List ℕ → ℕ
user_rows_of s = u16_at s 8

abbrev pub permission_rows_of : List ℕ → ℕ
permission_rows_of s = u16_at s 10

-- where the role bytes and the rows begin, and where the rota ends
abbrev pub roles_at : List ℕ → ℕ
roles_at s = record_at s (header_length s) (hours_of s)

abbrev pub user_rows_at : List ℕ → ℕ
user_rows_at s = roles_at s + roles_of s

abbrev pub permission_rows_at : List ℕ → ℕ
permission_rows_at s = user_rows_at s + 3 * user_rows_of s

abbrev pub ends_at : List ℕ → ℕ
ends_at s = permission_rows_at s + 3 * permission_rows_of s

-- role byte k, the row at a position, and row k of the rows that begin at `at`
abbrev pub role_ref : List ℕ → ℕ → HoursRef
role_ref s k = ref_of (u8_at s (roles_at s + k))

abbrev pub row_at_byte : List ℕ → ℕ → Row
row_at_byte s at = record { number = u8_at s at; role = u8_at s (at + 1); hours = ref_of (u8_at s (at + 2)) }

abbrev pub row_at : List ℕ → ℕ → ℕ → Row
row_at s at k = row_at_byte s (at + 3 * k)

unfoldable pub rota_of : List ℕ → Rota
rota_of s =
    record {
      format = format_of s;
      cycle = cycle_of s;
      users = users_of s;
      permissions = permissions_of s;
      hours = hours_from s (header_length s) (hours_of s);
      roles = list_of (roles_of s) (role_ref s);
      user-rows = list_of (user_rows_of s) (row_at s (user_rows_at s));
      permission-rows = list_of (permission_rows_of s) (row_at s (permission_rows_at s));
    }
