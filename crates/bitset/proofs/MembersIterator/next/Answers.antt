use Rattle.std.proofs.Common.{◌<◌, ◌^◌, arith}
use Rattle.bitset.proofs.SetLaws.{remove-less}
use Rattle.bitset.proofs.MembersIterator.next.Goals as goal

-- A set has fewer members without its lowest, and is a smaller number.

pub returns-clause-goes : goal.returns-clause-goes
returns-clause-goes c =
    let fits : c.args.self.now.rest < 2 ^ 64 = omega arith in
    let less = remove-less c.args.self.now.rest c.lowest-i.result fits c.lowest-i.ensures.1 c.lowest-i.ensures.0.member in
    let smaller : c.without_lowest-self.result < c.args.self.now.rest = omega (arith, c.without_lowest-self.ensures c.lowest-i.result c.lowest-i.ensures.0) in
    grind arith
