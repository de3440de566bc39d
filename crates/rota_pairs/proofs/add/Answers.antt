-- One store.
use mathlib.Core.Path.{ap}
use lib.ListN.{set}
use Rattle.rota_pairs.proofs.add.Goals as goal

pub returns : goal.returns
returns c = let a = c.args in ap (set a.juniors.now a.senior) c.with.ensures
