-- The worked chains, by computing.
-- Assumes nothing.
use mathlib.Core.Path.{refl}
use Rattle.ground.specs.Believed.Search.{any}
use Rattle.rota_pairs.specs.Hierarchy.{reaches}
use Rattle.rota_pairs.specs.Worked.{WorkedChains}

pub worked-chains : WorkedChains
unfolding any reaches
worked-chains =
    record {
      at-10 = (refl, refl);
      at-19 = refl;
      at_9 = (refl, refl, refl);
      at-20 = refl;
      own = (refl, refl);
      either_way = (refl, refl);
      neither = refl;
      ends = (refl, refl);
    }
