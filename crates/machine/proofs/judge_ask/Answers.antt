use Rattle.std.proofs.lemmas.Result.{err_from_is_err_and}
use Rattle.std.proofs.Common.{refl}
use Rattle.machine.proofs.CoreLaws.{first, onward}
use Rattle.machine.specs.Believed.Machine.{ask_judged}
use Rattle.ground.proofs.JudgementLaws.{tests}
use Rattle.ground.specs.Believed.Judgement.{refuse, ◌or_else◌}
use Rattle.refusal.proofs.RefusalLaws.{number-some}
use Rattle.machine.proofs.judge_ask.Goals as goal

pub returns-in_err-judge_state : goal.returns-in_err-judge_state
returns-in_err-judge_state c = let p = err_from_is_err_and c.from_residual.result c.from_residual.ensures.1 in rw (p.1, p.2) (first _ _ _ c.in_err-judge_state.ensures (number-some _))

pub returns-then-users-u : goal.returns-then-users-u
unfolding ask_judged refuse ◌or_else◌
returns-then-users-u c = onward _ _ _ _ c.in_ok-judge_state.ensures refl (search (tests))

pub returns-then-permissions-p : goal.returns-then-permissions-p
unfolding ask_judged refuse ◌or_else◌
returns-then-permissions-p c = onward _ _ _ _ c.in_ok-judge_state.ensures refl (search (tests))

pub returns-then-not-contains : goal.returns-then-not-contains
unfolding ask_judged refuse ◌or_else◌
returns-then-not-contains c = onward _ _ _ _ c.in_ok-judge_state.ensures refl (search (tests, ← c.contains.ensures, c.if-not-contains.true))

pub returns : goal.returns
unfolding ask_judged refuse ◌or_else◌
returns c = onward _ _ _ _ c.in_ok-judge_state.ensures refl (search (tests, ← c.contains.ensures, c.if-not-contains.false))
