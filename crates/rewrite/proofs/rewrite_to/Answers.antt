use Rattle.std.proofs.Common.{arith}
use Rattle.std.proofs.lemmas.Result.{err_from_is_err_and}
use Rattle.rota.proofs.LocatedLaws.{located-by, fine, counted}
use Rattle.rewrite_area.proofs.AnswerLaws.{not-a-rota, rewritten, all-roles}
use Rattle.rewrite.proofs.rewrite_to.Goals as goal

pub returns-in_err-layout : goal.returns-in_err-layout
returns-in_err-layout c =
    let a = c.args in
    let p = err_from_is_err_and c.from_residual.result c.from_residual.ensures.1 in
    rw (p.1, p.2) (not-a-rota a.s.now a.out.now a.room _ c.in_err-layout.ensures)

pub divide-division-requires : goal.divide-division-requires
divide-division-requires c = located-by _ _ c.in_ok-layout.ensures

pub overflow_cast-roles : goal.overflow_cast-roles
overflow_cast-roles c =
    let w = located-by _ _ c.in_ok-layout.ensures in
    omega (arith, (counted _ _ w).roles, (fine _ _ w).header.roles-most)

pub invariant_of-roles : goal.invariant_of-roles
invariant_of-roles c =
    let w = located-by _ _ c.in_ok-layout.ensures in
    record { located = w; divided = c.divide-division.ensures; range = (omega arith, omega (arith, (counted _ _ w).roles)) }

pub returns : goal.returns
returns c =
    let a = c.args in
    let w = located-by _ _ c.in_ok-layout.ensures in
    rewritten a.s.now a.out.now a.room w.accepted _ (all-roles _ _ w) _ _ c.rewrite_roles.ensures
