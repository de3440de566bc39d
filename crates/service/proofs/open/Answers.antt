use Rattle.std.proofs.Common.{refl, sym, ◌∙◌, arith}
use Rattle.std.proofs.lemmas.Result.{err_from_is_err_and}
use mathlib.Core.Logic.{inr}
use Rattle.minutes.specs.Believed.Minutes.{E}
use Rattle.machine.proofs.CoreLaws.{state-early}
use Rattle.refusal.proofs.RefusalLaws.{number-some}
use Rattle.service.proofs.LentReady.{ready, everyone}
use Rattle.service.proofs.StepLaws.{bytes-refused, open-refused, open-opened}
use Rattle.service.proofs.open.Goals as goal

pub returns-in_err-source : goal.returns-in_err-source
returns-in_err-source c =
    let p = err_from_is_err_and c.from_residual.result c.from_residual.ensures.1 in
    let h = c.in_err-source.ensures.judged in
    rw (p.1, p.2) (bytes-refused _ _ _ _ _ (sym h, λ z. number-some _ (h ∙ z)))

pub judge_state-requires : goal.judge_state-requires
judge_state-requires c = (ready c.in_ok-source.ensures.lent c.users-users.ensures refl).few

pub returns-in_err-judge_state : goal.returns-in_err-judge_state
returns-in_err-judge_state c =
    let p = err_from_is_err_and c.from_residual-in_err-judge_state.result c.from_residual-in_err-judge_state.ensures.1 in
    rw (p.1, p.2) (open-refused (ready c.in_ok-source.ensures.lent c.users-users.ensures refl) _ _ _ c.in_err-judge_state.ensures (number-some _))

pub overflow_add-service : goal.overflow_add-service
unfolding E
overflow_add-service c = omega (arith, state-early _ _ _ c.in_ok-judge_state.ensures refl)

pub steady-holders-requires : goal.steady-holders-requires
steady-holders-requires c =
    let early = state-early _ _ _ c.in_ok-judge_state.ensures refl in
    (omega arith, omega (arith, early), inr refl)

pub opened-requires : goal.opened-requires
opened-requires c = (ready c.in_ok-source.ensures.lent c.users-users.ensures refl).few

pub returns : goal.returns
returns c = c.opened.ensures ∙ open-opened (ready c.in_ok-source.ensures.lent c.users-users.ensures refl) _ _ _ _ c.in_ok-judge_state.ensures refl (everyone c.in_ok-source.ensures.lent _ c.steady-holders.ensures)
