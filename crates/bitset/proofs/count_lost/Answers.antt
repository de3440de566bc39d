use Rattle.bitset.proofs.SetLaws.{lost-count}
use Rattle.bitset.proofs.count_lost.Goals as goal

pub returns : goal.returns
returns c = lost-count c.args.before c.args.after c.ranges.before.fits c.ranges.after.fits
