use Rattle.bitset.proofs.LowestLaws.{lowest-is, lowest-small}
use Rattle.bitset.proofs.lowest.Goals as goal

pub returns : goal.returns
returns c = let w = lowest-is 64 c.args.set c.requires c.ranges.set.fits in (w, lowest-small 64 _ _ c.ranges.set.fits w)
