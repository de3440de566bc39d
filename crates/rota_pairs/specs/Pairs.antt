-- The pairs of seniors and juniors in bytes, and refusal 54 (document 02, item 8).
use Rattle.std.specs.Prelude.{ℕ, ◌+◌, ◌*◌, List, ◌||◌, leb}
use Rattle.ground.specs.Believed.Judgement.{refuse, in_turn}
use Rattle.ground.specs.Believed.Sequence.{list_of}
use Rattle.endian.specs.Believed.Numbers.{u8_at}
use Rattle.rota_pairs.specs.Hierarchy.{Pairing}

-- what bytes spell: pair k of the pairs that begin at `at`, the senior first; and the first n of them
abbrev pub pair_at : List ℕ → ℕ → ℕ → Pairing
pair_at s at k = record { senior = u8_at s (at + 2 * k); junior = u8_at s (at + 2 * k + 1) }

unfoldable pub pairs_of : List ℕ → ℕ → ℕ → List Pairing
pairs_of s at n = list_of n (pair_at s at)

-- a pair, where there are R roles: a role not below R, or a junior not below its senior
unfoldable pub pair_judged : ℕ → Pairing → ℕ
pair_judged R x = refuse 54 (leb R x.senior || leb R x.junior || leb x.senior x.junior)

-- the first n pairs from `at` on, in turn
unfoldable pub pairs_judged : ℕ → List ℕ → ℕ → ℕ → ℕ
pairs_judged R s at n = in_turn (λ k. pair_judged R (pair_at s at k)) n
