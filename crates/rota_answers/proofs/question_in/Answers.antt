use Rattle.std.proofs.Common.{refl, ap, ◌∙◌}
use Rattle.std.proofs.lemmas.Result.{err_from_is_err_and}
use Rattle.ground.specs.Believed.Outcome.{given}
use Rattle.refusal.proofs.RefusalLaws.{number-some}
use Rattle.policy.proofs.QuestionOutcome.{numbers-refused, question-given, minute-early}
use Rattle.rota.specs.Believed.Rota.{policy_of}
use Rattle.rota.specs.Believed.RotaBytes.{rota_of}
use Rattle.rota_answers.proofs.AskedLaws.{arguments-as}
use Rattle.rota_answers.proofs.question_in.Goals as goal

pub returns-in_err-judge_arguments : goal.returns-in_err-judge_arguments
returns-in_err-judge_arguments c =
    let w = c.args.rota.now.located in
    let p = err_from_is_err_and c.from_residual.result c.from_residual.ensures.1 in
    rw (p.1, p.2)
    (numbers-refused _ (policy_of (rota_of c.args.rota.now.bytes.now)) _ _ _ _ w.accepted (arguments-as _ _ w _ _ _ c.in_err-judge_arguments.ensures) (number-some _))

pub answer_in-requires : goal.answer_in-requires
answer_in-requires c =
    let w = c.args.rota.now.located in
    minute-early 0 (policy_of (rota_of c.args.rota.now.bytes.now)) _ _ _ _ (arguments-as _ _ w _ _ _ c.in_ok-judge_arguments.ensures) refl

pub returns : goal.returns
returns c =
    let w = c.args.rota.now.located in
    ap given c.answer_in.ensures
    ∙ question-given _ (policy_of (rota_of c.args.rota.now.bytes.now)) _ _ _ _ w.accepted (arguments-as _ _ w _ _ _ c.in_ok-judge_arguments.ensures) refl
