use Rattle.std.proofs.Common.{refl, sym, ◌∙◌, arith}
use Rattle.std.proofs.lemmas.Result.{err_from_is_err_and}
use mathlib.Core.Logic.{inl}
use Rattle.minutes.specs.Believed.Minutes.{E}
use Rattle.refusal.proofs.RefusalLaws.{number-some}
use Rattle.service.proofs.LentReady.{ready, steady-are, judged-minutes, judged-open}
use Rattle.service.proofs.StepLaws.{bytes-refused, advance-refused, advance-moved}
use Rattle.service.proofs.advance.Goals as goal

pub returns-in_err-lent : goal.returns-in_err-lent
returns-in_err-lent c =
    let p = err_from_is_err_and c.from_residual.result c.from_residual.ensures.1 in
    let h = c.in_err-lent.ensures.judged in
    rw (p.1, p.2) (bytes-refused _ _ _ _ _ (sym h, λ z. number-some _ (h ∙ z)))

pub judge_advance-requires : goal.judge_advance-requires
judge_advance-requires c = (ready c.in_ok-lent.ensures.lent c.users.ensures refl).few

pub returns-in_err-judge_advance : goal.returns-in_err-judge_advance
returns-in_err-judge_advance c =
    let p = err_from_is_err_and c.from_residual-in_err-judge_advance.result c.from_residual-in_err-judge_advance.ensures.1 in
    rw (p.1, p.2) (advance-refused (ready c.in_ok-lent.ensures.lent c.users.ensures refl) _ _ _ c.in_err-judge_advance.ensures (number-some _))

pub overflow_add-service : goal.overflow_add-service
unfolding E
overflow_add-service c = omega (arith, judged-minutes _ _ _ _ c.in_ok-judge_advance.ensures refl)

pub overflow_add-m : goal.overflow_add-m
unfolding E
overflow_add-m c = omega (arith, judged-minutes _ _ _ _ c.in_ok-judge_advance.ensures refl)

pub steady-stays-requires : goal.steady-stays-requires
steady-stays-requires c =
    let j = judged-minutes _ _ _ _ c.in_ok-judge_advance.ensures refl in
    (omega (arith, j.0), omega (arith, j.1), inl (judged-open _ _ _ _ c.in_ok-judge_advance.ensures refl _ c.users.ensures))

pub returns : goal.returns
returns c =
    c.moved.ensures
    ∙ advance-moved (ready c.in_ok-lent.ensures.lent c.users.ensures refl) _ _ _ _ _ _ c.in_ok-judge_advance.ensures refl (steady-are c.in_ok-lent.ensures.lent _ _ _ c.steady-stays.ensures) (omega arith) (omega arith)
