use Rattle.bitset.proofs.SetLaws.{insert-is}
use Rattle.bitset.proofs.with.Goals as goal

pub returns : goal.returns
returns c = insert-is c.args.set c.args.i c.ranges.set.fits c.requires
