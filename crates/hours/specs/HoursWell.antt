-- The hours records that document 01 admits ("Hours", "The rota's bytes").
use Rattle.std.specs.Prelude.{ℕ, ◌+◌, ◌≤◌, ◌<◌, List, [], ◌∷◌, length}
use Rattle.minutes.specs.Believed.Minutes.{E}
use Rattle.hours.specs.Believed.Hours.{Pair, Hours}

-- a pair that may start at `low`
pub record PairWell (c low : ℕ) (p : Pair) : Type 0 where
  pub starts : low ≤ p.offset
  pub some : 0 < p.length
  pub ends : p.offset + p.length ≤ c

-- each next pair starts later than the end of the one before
abbrev pub PairsWell : ℕ → ℕ → List Pair → Type 0
PairsWell c low [] = Unit {0}
PairsWell c low (p ∷ ps) = PairWell c low p × PairsWell c (p.offset + p.length + 1) ps

pub record HoursWell (c : ℕ) (h : Hours) : Type 0 where
  pub ordered : h.begin < h.end
  pub ends : h.end ≤ E
  pub some_pair : 0 < length h.pairs
  pub pairs : PairsWell c 0 h.pairs

-- the number of pairs of all records together
unfoldable pub pairs_in : List Hours → ℕ
pairs_in [] = 0
pairs_in (h ∷ hs) = length h.pairs + pairs_in hs
