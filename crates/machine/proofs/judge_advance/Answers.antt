use Rattle.std.proofs.lemmas.Result.{err_from_is_err_and}
use Rattle.std.proofs.Common.{refl}
use Rattle.machine.proofs.CoreLaws.{first, onward}
use Rattle.machine.specs.Believed.Machine.{advance_judged}
use Rattle.ground.proofs.JudgementLaws.{tests}
use Rattle.ground.specs.Believed.Judgement.{refuse, ◌or_else◌}
use Rattle.refusal.proofs.RefusalLaws.{number-some}
use Rattle.minutes.specs.Believed.Minutes.{E}
use Rattle.machine.proofs.judge_advance.Goals as goal

pub returns-in_err-judge_state : goal.returns-in_err-judge_state
returns-in_err-judge_state c = let p = err_from_is_err_and c.from_residual.result c.from_residual.ensures.1 in rw (p.1, p.2) (first _ _ _ c.in_err-judge_state.ensures (number-some _))

pub returns-then-m-ge-END : goal.returns-then-m-ge-END
unfolding advance_judged refuse ◌or_else◌ E
returns-then-m-ge-END c = onward _ _ _ _ c.in_ok-judge_state.ensures refl (search (tests))

pub returns-then-m-service : goal.returns-then-m-service
unfolding advance_judged refuse ◌or_else◌ E
returns-then-m-service c = onward _ _ _ _ c.in_ok-judge_state.ensures refl (search (tests))

pub returns : goal.returns
unfolding advance_judged refuse ◌or_else◌ E
returns c = onward _ _ _ _ c.in_ok-judge_state.ensures refl (search (tests))
