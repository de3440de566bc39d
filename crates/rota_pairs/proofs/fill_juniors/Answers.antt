-- The sets so far are those of the pairs so far.
use Rattle.std.proofs.Common.{arith}
use Rattle.rota_pairs.proofs.PairLaws.{pair_of}
use Rattle.rota_pairs.proofs.FillingLaws.{filled_none, filled_more}
use Rattle.rota_pairs.proofs.fill_juniors.Goals as goal

pub loop-i-init : goal.loop-i-init
loop-i-init c = filled_none _ _ _ c.requires.2

pub add-requires : goal.add-requires
add-requires c =
    let w = pair_of 32 _ _ _ c.requires.1 c.loop-i.i (omega (arith, c.loop-i-test.true)) in
    (omega (arith, w), omega (arith, w))

pub loop-i-preserved : goal.loop-i-preserved
loop-i-preserved c =
    let w = pair_of 32 _ _ _ c.requires.1 c.loop-i.i (omega (arith, c.loop-i-test.true)) in
    filled_more _ _ _ _ w.1 (omega (arith, w)) c.loop-i.invariant _ c.add.ensures
