-- The sets so far are those of the pairs so far.
use Rattle.rota_pairs.specs.Pairs.{pairs_of}
use Rattle.rota_pairs.proofs.FillingLaws.{Filled}
use Rattle.rota_pairs.proofs.fill_juniors.Given as goal

abbrev pub invariant-loop-i : goal.invariant-loop-i
invariant-loop-i l = Filled (pairs_of l.s l.at l.i) l.juniors
