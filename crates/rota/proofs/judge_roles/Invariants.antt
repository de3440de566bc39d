-- No role byte so far dangles.
use Rattle.std.proofs.Common.{◌≡◌}
use Rattle.ground.specs.Believed.Judgement.{in_turn}
use Rattle.rota.specs.Believed.RotaRefusals.{role_judged}
use Rattle.rota.proofs.judge_roles.Given as goal

abbrev pub invariant-loop-k : goal.invariant-loop-k
invariant-loop-k l = in_turn (role_judged l.s) l.k ≡ 0
