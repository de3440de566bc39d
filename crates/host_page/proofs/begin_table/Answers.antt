use Rattle.std.proofs.Common.{sym, ◌∙◌}
use Rattle.source.specs.declared.Kind.TheVariants.{Table}
use Rattle.refusal.proofs.RefusalLaws.{number-some}
use Rattle.host_page.proofs.PageLaws.{list-refused, bytes-refused, begun}
use Rattle.host_page.proofs.begin_table.Goals as goal

pub returns-then-is_long : goal.returns-then-is_long
returns-then-is_long c = list-refused Table _ _ _ _ c.is_long.ensures c.if-is_long.true c.refused.ensures.0 c.refused.ensures.1

pub returns-in-Err : goal.returns-in-Err
returns-in-Err c =
    let j = c.in-Err.ensures.judged in
    bytes-refused Table _ _ _ _ c.is_long.ensures c.if-is_long.false _ (sym j, λ z. number-some _ (j ∙ z)) c.refused-in-Err.ensures.0 c.refused-in-Err.ensures.1

pub returns-in-Ok : goal.returns-in-Ok
returns-in-Ok c =
    let e = c.in-Ok.ensures in
    let a = c.accepted.ensures in
    let o = rw e.lent at c.in-Ok.table.opened in
    let n = rw e.lent at c.note_starts.ensures in
    begun Table _ _ _ _ c.is_long.ensures c.if-is_long.false (sym e.judged) (rw a.3 o, rw (a.3, a.4) n) a.0 a.1
