use Rattle.std.proofs.Common.{◌∙◌, eq-eqb}
use Rattle.bitset.proofs.SetLaws.{below_all, below-shifted}
use Rattle.bitset.proofs.all_below.Goals as goal

pub returns-then-n-eq64 : goal.returns-then-n-eq64
returns-then-n-eq64 c = eq-eqb c.args.n 64 c.if-n-eq64.true ∙ below_all c.args.set c.args.n c.ranges.set.fits c.if-n-eq64.true

pub returns-else-n-eq64 : goal.returns-else-n-eq64
returns-else-n-eq64 c = below-shifted c.args.set c.args.n
