-- The length, the role bytes and the two kinds of rows are judged in 01's order; counts are those of the header.
use Rattle.std.proofs.Common.{◌∙◌, arith}
use Rattle.std.proofs.lemmas.Result.{err_from_is_err_and}
use Rattle.refusal.proofs.RefusalLaws.{number-some}
use Rattle.rota.proofs.CountsLaws.{counts-are, rows-known}
use Rattle.rota.proofs.ReadLaws.{rest-length, by-roles, by-users, by-permissions}
use Rattle.rota.proofs.RotaFine.{header-fine}
use Rattle.rota.proofs.judge_rest.Goals as goal

pub returns-then-s-permissions : goal.returns-then-s-permissions
returns-then-s-permissions c =
    let m = c.requires in
    let a = counts-are _ _ m.counts in
    rest-length _ (λ e. c.if-s-permissions.true (e ∙ omega (arith, m.ends, a.roles, a.user-rows, a.permission-rows)))

pub judge_roles-requires : goal.judge_roles-requires
judge_roles-requires c =
    let m = c.requires in
    (omega (arith, c.if-s-permissions.false), m.ends, (counts-are _ _ m.counts).hours)

pub returns-in_err-judge_roles : goal.returns-in_err-judge_roles
returns-in_err-judge_roles c =
    let p = err_from_is_err_and c.from_residual.result c.from_residual.ensures.1 in
    rw (p.1, p.2) (by-roles _ _ _ c.requires (omega (arith, c.if-s-permissions.false)) _ c.in_err-judge_roles.ensures (number-some _))

pub judge_ordered-requires : goal.judge_ordered-requires
judge_ordered-requires c =
    let m = c.requires in
    let a = counts-are _ _ m.counts in
    let f = header-fine _ m.header in
    (rows-known m f _ (omega (arith, c.if-s-permissions.false)) (omega (arith, f, a.users)), omega (arith, a.format, c.if-n-eq3.true))

pub returns-in_err-judge_ordered : goal.returns-in_err-judge_ordered
returns-in_err-judge_ordered c =
    let p = err_from_is_err_and c.from_residual-in_err-judge_ordered.result c.from_residual-in_err-judge_ordered.ensures.1 in
    rw (p.1, p.2) (by-users _ _ _ c.requires (omega (arith, c.if-s-permissions.false)) c.in_ok-judge_roles.ensures _ c.in_err-judge_ordered.ensures (number-some _))

pub judge_ordered-requires-then-n-eq3 : goal.judge_ordered-requires-then-n-eq3
judge_ordered-requires-then-n-eq3 c =
    let m = c.requires in
    let a = counts-are _ _ m.counts in
    let f = header-fine _ m.header in
    (rows-known m f _ (omega (arith, c.if-s-permissions.false)) (omega (arith, f, a.permissions)), omega (arith, a.format, c.if-n-eq3.true))

pub returns-in_ok-judge_ordered : goal.returns-in_ok-judge_ordered
returns-in_ok-judge_ordered c =
    by-permissions _ _ _ c.requires (omega (arith, c.if-s-permissions.false)) c.in_ok-judge_roles.ensures _ c.in_ok-judge_ordered.ensures
    c.judge_ordered-then-n-eq3.ensures

pub judge_rows-requires : goal.judge_rows-requires
judge_rows-requires c =
    let m = c.requires in
    let a = counts-are _ _ m.counts in
    let f = header-fine _ m.header in
    (rows-known m f _ (omega (arith, c.if-s-permissions.false)) (omega (arith, f, a.users)), λ e. c.if-n-eq3.false (omega (arith, a.format, e)))

pub returns-in_err-judge_rows : goal.returns-in_err-judge_rows
returns-in_err-judge_rows c =
    let p = err_from_is_err_and c.from_residual-in_err-judge_rows.result c.from_residual-in_err-judge_rows.ensures.1 in
    rw (p.1, p.2) (by-users _ _ _ c.requires (omega (arith, c.if-s-permissions.false)) c.in_ok-judge_roles.ensures _ c.in_err-judge_rows.ensures (number-some _))

pub judge_rows-requires-else-n-eq3 : goal.judge_rows-requires-else-n-eq3
judge_rows-requires-else-n-eq3 c =
    let m = c.requires in
    let a = counts-are _ _ m.counts in
    let f = header-fine _ m.header in
    (rows-known m f _ (omega (arith, c.if-s-permissions.false)) (omega (arith, f, a.permissions)), λ e. c.if-n-eq3.false (omega (arith, a.format, e)))

pub returns-in_ok-judge_rows : goal.returns-in_ok-judge_rows
returns-in_ok-judge_rows c =
    by-permissions _ _ _ c.requires (omega (arith, c.if-s-permissions.false)) c.in_ok-judge_roles.ensures _ c.in_ok-judge_rows.ensures
    c.judge_rows-else-n-eq3.ensures
