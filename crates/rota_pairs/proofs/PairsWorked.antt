-- The worked pairs, by computing.
-- Assumes nothing.
use mathlib.Core.Path.{refl}
use Rattle.ground.specs.Believed.Judgement.{refuse, ◌or_else◌, in_turn}
use Rattle.ground.specs.Believed.Sequence.{list_of}
use Rattle.rota_pairs.specs.Pairs.{pairs_of, pair_judged, pairs_judged}
use Rattle.rota_pairs.specs.PairsWorked.{WorkedPairs}

pub worked-pairs : WorkedPairs
unfolding refuse ◌or_else◌ in_turn list_of pairs_of pair_judged pairs_judged
worked-pairs =
    record {
      spelled = refl;
      none-there = refl;
      in-turn = (refl, refl, refl);
      highest = (refl, refl);
      fallen = (refl, refl, refl);
    }
