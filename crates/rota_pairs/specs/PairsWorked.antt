-- Bytes with a byte before them and one after: the pairs that they spell, and which pairs are refused.
use Rattle.std.specs.Prelude.{ℕ, ◌≡◌, List, [], ◌∷◌}
use Rattle.rota_pairs.specs.Hierarchy.{Pairing}
use Rattle.rota_pairs.specs.Pairs.{pairs_of, pair_judged, pairs_judged}

abbrev pair : ℕ → ℕ → Pairing
pair r q = record { senior = r; junior = q }

abbrev pub bytes : List ℕ
bytes = 9 ∷ 1 ∷ 0 ∷ 2 ∷ 1 ∷ 7 ∷ []

pub record WorkedPairs : Type 0 where
  -- the senior first
  pub spelled : pairs_of bytes 1 2 ≡ (pair 1 0 ∷ pair 2 1 ∷ [])
  pub none-there : pairs_of bytes 1 0 ≡ []
  -- with three roles both pass; with two the second is refused, and the first alone is not
  pub in-turn : (pairs_judged 3 bytes 1 2 ≡ 0) × (pairs_judged 2 bytes 1 2 ≡ 54) × (pairs_judged 2 bytes 1 1 ≡ 0)
  -- the highest role passes, and R does not; nor does a role paired with itself, nor the junior first
  pub highest : (pair_judged 3 (pair 2 0) ≡ 0) × (pair_judged 3 (pair 3 0) ≡ 54)
  pub fallen : (pair_judged 3 (pair 1 1) ≡ 54) × (pair_judged 3 (pair 0 1) ≡ 54) × (pair_judged 3 (pair 0 3) ≡ 54)
