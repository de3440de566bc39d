-- Refusals 1 to 12 (document 01, "Refusals by operation", reading a rota) and 52 (document 02, item 7).
use Rattle.std.specs.Prelude.{ℕ, List, Bool, not, ◌&&◌, ◌||◌, length, ltb, leb, eqb}
use Rattle.ground.specs.Believed.Judgement.{refuse, ◌or_else◌, in_turn}
use Rattle.hours.specs.Believed.Hours.{dangling}
use Rattle.hours.specs.Believed.HoursRefusals.{record_judged}
use Rattle.rota.specs.Believed.Rota.{Row}
use Rattle.rota.specs.Believed.RotaBytes.{header_length, format_of, cycle_of, hours_of, users_of, permissions_of, roles_of, user_rows_of, permission_rows_of, user_rows_at, permission_rows_at, ends_at, role_ref, row_at}
use Rattle.rota.specs.Believed.Order.{key_of, least}

-- a count of the header over its limit
unfoldable pub counts_over : List ℕ → Bool
counts_over s =
    ltb 32 (hours_of s) || ltb 64 (users_of s) || ltb 64 (permissions_of s) || ltb 32 (roles_of s) || ltb 512 (user_rows_of s)
    || ltb 512 (permission_rows_of s)

-- rotas of formats 1 and 3 are read
unfoldable pub format_read : ℕ → Bool
format_read n = eqb n 1 || eqb n 3

unfoldable pub header_judged : List ℕ → ℕ
header_judged s =
    refuse 1 (ltb (length s) (header_length s))
    or_else refuse 2 (not (format_read (format_of s)))
    or_else refuse 3 (eqb (cycle_of s) 0 || ltb 40320 (cycle_of s))
    or_else refuse 4 (counts_over s)

-- role byte k, where there are h hours records
unfoldable pub role_judged : List ℕ → ℕ → ℕ
role_judged s k = refuse 10 (dangling (hours_of s) (role_ref s k))

-- a row with a number out of range: of a user or permission, where there are `top`, of a role or of hours
unfoldable pub row_bad : ℕ → ℕ → ℕ → Row → Bool
row_bad top roles h w = leb top w.number || leb roles w.role || dangling h w.hours

-- a row of format 3 that is not above the one before
unfoldable pub row_falls : List ℕ → ℕ → ℕ → Bool
row_falls s at k = eqb (format_of s) 3 && ltb (key_of (row_at s at k)) (least (row_at s at) k)

-- row k of the rows that begin at `at`: refusal n, then 52
unfoldable pub row_judged : ℕ → ℕ → List ℕ → ℕ → ℕ → ℕ
row_judged n top s at k = refuse n (row_bad top (roles_of s) (hours_of s) (row_at s at k)) or_else refuse 52 (row_falls s at k)

-- the whole rota: the number of its first refusal, or 0
unfoldable pub rota_judged : List ℕ → ℕ
rota_judged s =
    header_judged s
    or_else in_turn (record_judged s (cycle_of s) (header_length s)) (hours_of s)
    or_else refuse 9 (not (eqb (length s) (ends_at s)))
    or_else in_turn (role_judged s) (roles_of s)
    or_else in_turn (row_judged 11 (users_of s) s (user_rows_at s)) (user_rows_of s)
    or_else in_turn (row_judged 12 (permissions_of s) s (permission_rows_at s)) (permission_rows_of s)
