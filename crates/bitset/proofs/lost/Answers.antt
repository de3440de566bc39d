use Rattle.bitset.proofs.SetLaws.{difference-is}
use Rattle.bitset.proofs.lost.Goals as goal

pub returns : goal.returns
returns c = difference-is c.args.before c.args.after c.ranges.before.fits c.ranges.after.fits
