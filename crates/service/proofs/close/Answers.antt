use Rattle.std.proofs.Common.{refl, sym, ◌∙◌}
use Rattle.std.proofs.lemmas.Result.{err_from_is_err_and}
use Rattle.refusal.proofs.RefusalLaws.{number-some}
use Rattle.service.proofs.LentReady.{ready}
use Rattle.service.proofs.StepLaws.{bytes-refused, close-closed}
use Rattle.service.proofs.close.Goals as goal

pub returns-in_err-source : goal.returns-in_err-source
returns-in_err-source c =
    let p = err_from_is_err_and c.from_residual.result c.from_residual.ensures.1 in
    let h = c.in_err-source.ensures.judged in
    rw (p.1, p.2) (bytes-refused _ _ _ _ _ (sym h, λ z. number-some _ (h ∙ z)))

pub closed-requires : goal.closed-requires
closed-requires c = (ready c.in_ok-source.ensures.lent c.users.ensures refl).few

pub returns : goal.returns
returns c = c.closed.ensures ∙ close-closed (ready c.in_ok-source.ensures.lent c.users.ensures refl) _ _
