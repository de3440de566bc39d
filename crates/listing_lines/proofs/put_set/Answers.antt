use Rattle.std.proofs.Common.{arith}
use Rattle.output.proofs.PutLaws.{put-more}
use Rattle.listing_lines.specs.Believed.Lines.{hex16}
use Rattle.listing_lines.proofs.DigitLaws.{digits-length}
use Rattle.listing_lines.proofs.put_set.Goals as goal

pub put-requires : goal.put-requires
put-requires c = omega (arith, digits-length 16 16 c.args.set)

pub returns : goal.returns
unfolding hex16
returns c = (put-more c.put_digits.ensures c.put.ensures, omega (arith, digits-length 16 16 c.args.set))
