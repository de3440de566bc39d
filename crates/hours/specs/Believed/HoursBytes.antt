-- The bytes of hours records (document 01, "The rota's bytes").
use Rattle.std.specs.Prelude.{ℕ, zero, suc, ◌+◌, ◌*◌, List, ◌++◌, length}
use Rattle.ground.specs.Believed.Sequence.{list_of, joined}
use Rattle.endian.specs.Believed.Numbers.{u16_at, u32_at, bytes16, bytes32}
use Rattle.hours.specs.Believed.Hours.{Pair, Hours}

-- the bytes that spell a record: begin, end, the number of pairs, then each pair
unfoldable pub pair_bytes : Pair → List ℕ
pair_bytes p = bytes16 p.offset ++ bytes16 p.length

unfoldable pub hours_bytes : Hours → List ℕ
hours_bytes h = bytes32 h.begin ++ bytes32 h.end ++ bytes16 (length h.pairs) ++ joined pair_bytes h.pairs

-- what bytes spell: pair j of the pairs that begin at `at`
abbrev pub offset_at : List ℕ → ℕ → ℕ → ℕ
offset_at s at j = u16_at s (at + 4 * j)

abbrev pub length_at : List ℕ → ℕ → ℕ → ℕ
length_at s at j = u16_at s (at + 4 * j + 2)

abbrev pub pair_at : List ℕ → ℕ → ℕ → Pair
pair_at s at j = record { offset = offset_at s at j; length = length_at s at j }

-- the record that begins at `at`
abbrev pub begin_at : List ℕ → ℕ → ℕ
begin_at s at = u32_at s at

abbrev pub end_at : List ℕ → ℕ → ℕ
end_at s at = u32_at s (at + 4)

abbrev pub pairs_at : List ℕ → ℕ → ℕ
pairs_at s at = u16_at s (at + 8)

abbrev pub hours_at : List ℕ → ℕ → Hours
hours_at s at = record { begin = begin_at s at; end = end_at s at; pairs = list_of (pairs_at s at) (pair_at s (at + 10)) }

-- where record k begins, of the records from `from` on, and how many pairs those before it hold
unfoldable pub record_at : List ℕ → ℕ → ℕ → ℕ
record_at s from zero = from
record_at s from (suc k) = record_at s from k + 10 + 4 * pairs_at s (record_at s from k)

unfoldable pub pairs_before : List ℕ → ℕ → ℕ → ℕ
pairs_before s from zero = 0
pairs_before s from (suc k) = pairs_before s from k + pairs_at s (record_at s from k)

-- the first h records from `from` on
unfoldable pub hours_from : List ℕ → ℕ → ℕ → List Hours
hours_from s from h = list_of h (λ k. hours_at s (record_at s from k))
