use Rattle.std.proofs.Common.{◌∙◌, ap, refl}
use Rattle.std.proofs.lemmas.Result.{err_from_is_err_and}
use Rattle.ground.specs.Believed.Outcome.{given}
use Rattle.policy.proofs.QuestionOutcome.{numbers-refused, question-given, numbers-below}
use Rattle.refusal.proofs.RefusalLaws.{number-some}
use Rattle.table.specs.Believed.Table.{policy_of}
use Rattle.table.specs.Believed.TableBytes.{table_of}
use Rattle.table_reader.proofs.ReadLaws.{arguments-as}
use Rattle.table_questions.proofs.question_by.Goals as goal

pub returns-in_err-judge_arguments : goal.returns-in_err-judge_arguments
returns-in_err-judge_arguments c =
    let p = err_from_is_err_and c.from_residual.result c.from_residual.ensures.1 in
    let o = c.args.table.now.opened in
    rw (p.1, p.2)
    (numbers-refused _ (policy_of (table_of _)) _ _ _ _ o.clear (arguments-as _ _ o _ _ _ c.in_err-judge_arguments.ensures) (number-some _))

pub answer_by-requires : goal.answer_by-requires
answer_by-requires c = let i = numbers-below _ _ _ _ _ _ c.in_ok-judge_arguments.ensures refl in (i.0, i.1, c.requires)

pub returns : goal.returns
returns c =
    let o = c.args.table.now.opened in
    ap given c.answer_by.ensures
    ∙ question-given _ (policy_of (table_of _)) _ _ _ _ o.clear (arguments-as _ _ o _ _ _ c.in_ok-judge_arguments.ensures) refl
