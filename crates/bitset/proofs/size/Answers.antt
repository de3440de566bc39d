use Rattle.bitset.proofs.SetLaws.{ones-count}
use Rattle.bitset.proofs.size.Goals as goal

pub returns : goal.returns
returns c = ones-count c.args.set c.ranges.set.fits
