use Rattle.std.proofs.Common.{sym, ◌∙◌}
use Rattle.std.proofs.lemmas.Result.{err_from_is_err_and}
use Rattle.refusal.proofs.RefusalLaws.{number-some}
use Rattle.policy.proofs.QuestionOutcome.{bytes-refused}
use Rattle.rota.specs.Believed.Rota.{policy_of}
use Rattle.rota.specs.Believed.RotaBytes.{rota_of}
use Rattle.rota_answers.proofs.question.Goals as goal

pub returns-in_err-rota : goal.returns-in_err-rota
returns-in_err-rota c =
    let p = err_from_is_err_and c.from_residual.result c.from_residual.ensures.1 in
    let e = sym c.in_err-rota.ensures.judged in
    rw (p.1, p.2) (bytes-refused _ (policy_of (rota_of c.args.s.now)) _ _ _ _ e (λ z. number-some _ (sym e ∙ z)))
