use Rattle.std.proofs.Common.{arith}
use Rattle.listing_lines.proofs.DigitLaws.{places-low, places-high, places-most}
use Rattle.listing_lines.proofs.places.Goals as goal

pub overflow_add-k : goal.overflow_add-k
overflow_add-k c = omega (arith, places-most 9 c.args.n (omega arith))

pub loop-rest-preserved : goal.loop-rest-preserved
loop-rest-preserved c = omega (arith, places-high c.loop-rest.rest (omega arith))

pub returns : goal.returns
returns c = omega (arith, places-low c.loop-rest.rest (omega arith), places-most 9 c.args.n (omega arith))
