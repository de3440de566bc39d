use Rattle.bitset.proofs.SetLaws.{remove-is}
use Rattle.bitset.proofs.without.Goals as goal

pub returns : goal.returns
returns c = remove-is c.args.set c.args.i c.ranges.set.fits c.requires
