use Rattle.bitset.proofs.SetLaws.{intersection-is}
use Rattle.bitset.proofs.both.Goals as goal

pub returns : goal.returns
returns c = intersection-is c.args.a c.args.b c.ranges.a.fits c.ranges.b.fits
