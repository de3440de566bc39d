use Rattle.std.proofs.Common.{sym, ◌∙◌}
use Rattle.source.specs.declared.Kind.TheVariants.{Rota}
use Rattle.refusal.proofs.RefusalLaws.{number-some}
use Rattle.host_page.proofs.PageLaws.{list-refused, bytes-refused, begun}
use Rattle.host_page.proofs.begin_rota.Goals as goal

pub returns-then-is_long : goal.returns-then-is_long
returns-then-is_long c = list-refused Rota _ _ _ _ c.is_long.ensures c.if-is_long.true c.refused.ensures.0 c.refused.ensures.1

pub returns-in-Err : goal.returns-in-Err
returns-in-Err c =
    let j = c.in-Err.ensures.judged in
    bytes-refused Rota _ _ _ _ c.is_long.ensures c.if-is_long.false _ (sym j, λ z. number-some _ (j ∙ z)) c.refused-in-Err.ensures.0 c.refused-in-Err.ensures.1

pub returns-in-Ok : goal.returns-in-Ok
returns-in-Ok c =
    let e = c.in-Ok.ensures in
    let a = c.accepted.ensures in
    let w = rw e.lent at c.in-Ok.rota.located in
    begun Rota _ _ _ _ c.is_long.ensures c.if-is_long.false (sym e.judged) (rw a.2 w) a.0 a.1
