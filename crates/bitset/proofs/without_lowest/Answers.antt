use Rattle.bitset.proofs.LowestLaws.{lowest-gone}
use Rattle.bitset.proofs.without_lowest.Goals as goal

pub overflow_sub-result : goal.overflow_sub-result
overflow_sub-result c = c.requires

pub returns : goal.returns
returns c = λ i w. lowest-gone c.args.set i c.requires c.ranges.set.fits w
