use Rattle.bitset.specs.Believed.Sets.{has}
use mathlib.Core.Path.{refl}
use Rattle.bitset.proofs.contains.Goals as goal

pub returns : goal.returns
unfolding has
returns c = refl
