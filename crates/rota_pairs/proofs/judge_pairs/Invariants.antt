-- The pairs so far are not refused.
use Rattle.std.proofs.Common.{◌≡◌}
use Rattle.rota_pairs.specs.Pairs.{pairs_judged}
use Rattle.rota_pairs.proofs.judge_pairs.Given as goal

abbrev pub invariant-loop-k : goal.invariant-loop-k
invariant-loop-k l = pairs_judged l.roles l.s l.at l.k ≡ 0
