-- Refusals 5 to 8 of hours records (document 01, "Refusals by operation", reading a rota).
use Rattle.std.specs.Prelude.{ℕ, zero, suc, ◌+◌, ◌*◌, List, ◌||◌, length, ltb, leb, eqb}
use Rattle.ground.specs.Believed.Judgement.{refuse, ◌or_else◌, in_turn}
use Rattle.minutes.specs.Believed.Minutes.{E}
use Rattle.hours.specs.Believed.HoursBytes.{offset_at, length_at, begin_at, end_at, pairs_at, record_at, pairs_before}

-- where pair j of those that begin at `at` may start: later than the end of the pair before it
unfoldable pub earliest : List ℕ → ℕ → ℕ → ℕ
earliest s at zero = 0
earliest s at (suc j) = offset_at s at j + length_at s at j + 1

-- pair j, for a cycle of c minutes
unfoldable pub pair_judged : List ℕ → ℕ → ℕ → ℕ → ℕ
pair_judged s c at j =
    refuse 8 (eqb (length_at s at j) 0 || ltb c (offset_at s at j + length_at s at j) || ltb (offset_at s at j) (earliest s at j))

-- the record at `at`, with `total` pairs in the records before it
unfoldable pub hours_judged : List ℕ → ℕ → ℕ → ℕ → ℕ
hours_judged s c at total =
    refuse 5 (ltb (length s) (at + 10))
    or_else refuse 6 (leb (end_at s at) (begin_at s at) || ltb E (end_at s at))
    or_else refuse 7 (eqb (pairs_at s at) 0 || ltb 256 (total + pairs_at s at))
    or_else refuse 5 (ltb (length s) (at + 10 + 4 * pairs_at s at))
    or_else in_turn (pair_judged s c (at + 10)) (pairs_at s at)

-- record k of those from `from` on
unfoldable pub record_judged : List ℕ → ℕ → ℕ → ℕ → ℕ
record_judged s c from k = hours_judged s c (record_at s from k) (pairs_before s from k)
