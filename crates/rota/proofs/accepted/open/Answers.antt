use Rattle.std.proofs.Common.{sym}
use Rattle.std.proofs.lemmas.Result.{err_from_is_err_and}
use Rattle.rota.proofs.LocatedLaws.{located-by}
use Rattle.rota.proofs.ReadLaws.{not-located}
use Rattle.rota.proofs.accepted.open.Goals as goal

pub returns-in_err-layout-clause-judged : goal.returns-in_err-layout-clause-judged
returns-in_err-layout-clause-judged c =
    let p = err_from_is_err_and c.from_residual.result c.from_residual.ensures.1 in
    rw (p.1, p.2) (sym (not-located _ _ c.in_err-layout.ensures).0)

pub invariant_of-result : goal.invariant_of-result
invariant_of-result c = record { located = located-by _ _ c.in_ok-layout.ensures }
