-- No role byte so far dangles.
use Rattle.std.proofs.Common.{sym, ◌∙◌, arith}
use Rattle.ground.proofs.JudgementLaws.{turns-none, turns_more, turns-refused, refuse-yes, refuse-none}
use Rattle.rota.proofs.RowLaws.{role-judged}
use Rattle.rota.proofs.judge_roles.Goals as goal

pub loop-k-init : goal.loop-k-init
loop-k-init c = turns-none _

pub returns-then-dangles : goal.returns-then-dangles
returns-then-dangles c = sym (turns-refused _ _ _ 10 (omega arith) c.loop-k-test.true c.loop-k.invariant (role-judged _ _ c.requires.2 _ _ _ _ c.requires.1 c.decode.ensures c.dangles.ensures ∙ refuse-yes 10 _ c.if-dangles.true))

pub loop-k-preserved : goal.loop-k-preserved
loop-k-preserved c = turns_more _ _ c.loop-k.invariant (role-judged _ _ c.requires.2 _ _ _ _ c.requires.1 c.decode.ensures c.dangles.ensures ∙ refuse-none 10 _ c.if-dangles.false)
