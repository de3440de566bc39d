-- Refusals 21 to 28 (document 01, "Refusals by operation", reading a table).
use Rattle.std.specs.Prelude.{ℕ, zero, suc, ◌+◌, ◌*◌, ◌^◌, List, Bool, true, not, ◌&&◌, ◌||◌, length, ltb, leb, eqb}
use Rattle.ground.specs.Believed.Judgement.{refuse, ◌or_else◌, in_turn}
use Rattle.endian.specs.Believed.Numbers.{u16_at}
use Rattle.minutes.specs.Believed.Minutes.{E, Window}
use Rattle.table.specs.Believed.Table.{Entry, Row}
use Rattle.table.specs.Believed.TableBytes.{cycle_of, users_of, permissions_of, roles_of, derived_of, rows_of, entry_of, row_of}

unfoldable pub header_judged : List ℕ → ℕ
header_judged s =
    refuse 21 (ltb (length s) 16)
    or_else refuse 22 (not (eqb (u16_at s 0) 2))
    or_else refuse 23 (eqb (cycle_of s) 0 || ltb 40320 (cycle_of s))
    or_else refuse 24 (ltb 64 (users_of s) || ltb 64 (permissions_of s) || ltb 32 (roles_of s))
    or_else refuse 25 (not (eqb (length s) (16 + 17 * derived_of s + 16 * rows_of s)))

-- the source of the entry before entry d, and 0 where there is none
unfoldable pub source_before : List ℕ → ℕ → ℕ
source_before s zero = 0
source_before s (suc d) = (entry_of s d).source

-- an entry after a source: source not below the number of roles, source below the entry before, an empty set, or a bit at or above U or P
unfoldable pub entry_bad : ℕ → ℕ → ℕ → ℕ → Entry → Bool
entry_bad roles users permissions before e =
    leb roles e.source || ltb e.source before || eqb e.users 0 || eqb e.permissions 0 || leb (2 ^ users) e.users
    || leb (2 ^ permissions) e.permissions

unfoldable pub entry_judged : List ℕ → ℕ → ℕ
entry_judged s d = refuse 26 (entry_bad (roles_of s) (users_of s) (permissions_of s) (source_before s d) (entry_of s d))

-- a row by itself: derived role not below D, begin not below end, end over E, length 0, offset + length over C
unfoldable pub row_bad : ℕ → ℕ → Row → Bool
row_bad derived cycle w =
    leb derived w.derived || leb w.window.end w.window.begin || ltb E w.window.end || eqb w.window.length 0
    || ltb cycle (w.window.offset + w.window.length)

-- a window w of source role q follows a window v of source role r
unfoldable pub follows : ℕ → Window → ℕ → Window → Bool
follows r v q w =
    ltb r q
    || (eqb r q && eqb v.begin w.begin && eqb v.end w.end && leb (v.offset + v.length) w.offset)
    || (eqb r q && leb v.end w.begin)

-- the source role of a row's derived role
abbrev pub source_of : List ℕ → ℕ → ℕ
source_of s i = (entry_of s (row_of s i).derived).source

-- row i follows the one before; the first row follows
unfoldable pub follows_before : List ℕ → ℕ → Bool
follows_before s zero = true
follows_before s (suc i) = follows (source_of s i) (row_of s i).window (source_of s (suc i)) (row_of s (suc i)).window

unfoldable pub row_judged : List ℕ → ℕ → ℕ
row_judged s i = refuse 27 (row_bad (derived_of s) (cycle_of s) (row_of s i)) or_else refuse 28 (not (follows_before s i))

-- the whole table: the number of its first refusal, or 0
unfoldable pub table_judged : List ℕ → ℕ
table_judged s = header_judged s or_else in_turn (entry_judged s) (derived_of s) or_else in_turn (row_judged s) (rows_of s)
