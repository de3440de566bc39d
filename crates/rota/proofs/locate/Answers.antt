-- The header, the records and the rest are judged in order; places follow from where the records end.
use Rattle.std.proofs.Common.{sym, arith}
use Rattle.std.proofs.lemmas.Result.{err_from_is_err_and}
use Rattle.refusal.proofs.RefusalLaws.{number-some}
use Rattle.rota.proofs.CountsLaws.{counts-are, layout-by, records-as, records-end}
use Rattle.rota.proofs.ReadLaws.{by-header, by-records, by-rest, accepted}
use Rattle.rota.proofs.RotaFine.{header-fine}
use Rattle.rota.proofs.locate.Goals as goal

pub returns-in_err-judge_header : goal.returns-in_err-judge_header
returns-in_err-judge_header c =
    let p = err_from_is_err_and c.from_residual.result c.from_residual.ensures.1 in
    rw (p.1, p.2) (by-header _ _ c.in_err-judge_header.ensures (number-some _))

pub read_counts-n-requires : goal.read_counts-n-requires
read_counts-n-requires c = (header-fine _ (sym c.in_ok-judge_header.ensures)).long

pub judge_all-requires : goal.judge_all-requires
judge_all-requires c = omega (arith, (header-fine _ (sym c.in_ok-judge_header.ensures)).long, c.header_length-hours_at.ensures)

pub returns-in_err-roles_at : goal.returns-in_err-roles_at
returns-in_err-roles_at c =
    let p = err_from_is_err_and c.from_residual-in_err-roles_at.result c.from_residual-in_err-roles_at.ensures.1 in
    let n = counts-are _ _ c.read_counts-n.ensures in
    rw (p.1, p.2)
    (by-records _ (sym c.in_ok-judge_header.ensures) _ (records-as n c.header_length-hours_at.ensures c.in_err-roles_at.ensures.judged) (number-some _))

pub judge_rest-requires : goal.judge_rest-requires
judge_rest-requires c =
    let n = counts-are _ _ c.read_counts-n.ensures in
    let w = c.in_ok-roles_at.ensures in
    record {
      header = sym c.in_ok-judge_header.ensures;
      counts = c.read_counts-n.ensures;
      ends = records-end n c.header_length-hours_at.ensures w.ends;
      within = w.within;
    }

pub returns-in_err-judge_rest : goal.returns-in_err-judge_rest
returns-in_err-judge_rest c =
    let p = err_from_is_err_and c.from_residual-in_err-judge_rest.result c.from_residual-in_err-judge_rest.ensures.1 in
    let n = counts-are _ _ c.read_counts-n.ensures in
    let r = records-as n c.header_length-hours_at.ensures c.in_ok-roles_at.ensures.judged in
    rw (p.1, p.2) (by-rest _ (sym c.in_ok-judge_header.ensures) (sym r) _ c.in_err-judge_rest.ensures (number-some _))

pub returns : goal.returns
returns c =
    let n = counts-are _ _ c.read_counts-n.ensures in
    let s = c.header_length-hours_at.ensures in
    let w = c.in_ok-roles_at.ensures in
    let e = records-end n s w.ends in
    accepted _ (sym c.in_ok-judge_header.ensures) (sym (records-as n s w.judged)) _ c.in_ok-judge_rest.ensures
    (layout-by _ _ _ _ _ _ c.read_counts-n.ensures s e (omega (arith, e, n.roles)) (omega (arith, e, n.roles, n.user-rows)))
