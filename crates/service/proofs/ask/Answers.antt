use Rattle.std.proofs.Common.{refl, sym, ◌∙◌, arith}
use Rattle.std.proofs.lemmas.Result.{err_from_is_err_and}
use Rattle.machine.proofs.CoreLaws.{ask-early, ask-inside}
use Rattle.refusal.proofs.RefusalLaws.{number-some}
use Rattle.service.proofs.LentReady.{ready, answer-is}
use Rattle.service.proofs.StepLaws.{bytes-refused, ask-refused, ask-answered}
use Rattle.service.proofs.ask.Goals as goal

pub returns-in_err-source : goal.returns-in_err-source
returns-in_err-source c =
    let p = err_from_is_err_and c.from_residual.result c.from_residual.ensures.1 in
    let h = c.in_err-source.ensures.judged in
    rw (p.1, p.2) (bytes-refused _ _ _ _ _ (sym h, λ z. number-some _ (h ∙ z)))

pub judge_ask-requires : goal.judge_ask-requires
judge_ask-requires c = (ready c.in_ok-source.ensures.lent c.users.ensures c.permissions.ensures).few

pub returns-in_err-judge_ask : goal.returns-in_err-judge_ask
returns-in_err-judge_ask c =
    let p = err_from_is_err_and c.from_residual-in_err-judge_ask.result c.from_residual-in_err-judge_ask.ensures.1 in
    rw (p.1, p.2) (ask-refused (ready c.in_ok-source.ensures.lent c.users.ensures c.permissions.ensures) _ _ _ _ c.in_err-judge_ask.ensures (number-some _))

pub answer_at-requires : goal.answer_at-requires
answer_at-requires c =
    let i = ask-inside _ _ _ _ _ _ c.in_ok-judge_ask.ensures refl in
    (omega (arith, c.users.ensures), omega (arith, c.permissions.ensures), ask-early _ _ _ _ _ _ c.in_ok-judge_ask.ensures refl)

pub returns : goal.returns
returns c = ask-answered (ready c.in_ok-source.ensures.lent c.users.ensures c.permissions.ensures) _ _ _ _ _ c.in_ok-judge_ask.ensures refl (answer-is c.in_ok-source.ensures.lent _ _ _ c.answer_at.ensures)
