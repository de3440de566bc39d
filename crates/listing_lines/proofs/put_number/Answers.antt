use Rattle.std.proofs.Common.{arith}
use Rattle.output.proofs.PutLaws.{put-more}
use Rattle.listing_lines.specs.Believed.Lines.{decimal}
use Rattle.listing_lines.proofs.DigitLaws.{digits-length}
use Rattle.listing_lines.proofs.put_number.Goals as goal

pub put-requires : goal.put-requires
put-requires c = omega (arith, digits-length 10 c.places.result c.args.n)

pub returns : goal.returns
unfolding decimal
returns c =
    (rw (← c.places.ensures.0) (put-more c.put_digits.ensures c.put.ensures), omega (arith, digits-length 10 c.places.result c.args.n))
