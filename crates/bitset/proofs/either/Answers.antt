use Rattle.bitset.proofs.SetLaws.{union-is}
use Rattle.bitset.proofs.either.Goals as goal

pub returns : goal.returns
returns c = union-is c.args.a c.args.b c.ranges.a.fits c.ranges.b.fits
