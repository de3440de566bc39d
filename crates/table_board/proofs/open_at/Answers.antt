use Rattle.std.proofs.Common.{arith}
use Rattle.std.proofs.lemmas.Result.{err_from_is_err_and}
use Rattle.minutes.specs.Believed.Minutes.{E}
use Rattle.refusal.proofs.RefusalLaws.{number-some}
use Rattle.table_board.proofs.ToldLaws.{judged-bytes, judged-late, judged-fine}
use Rattle.table_board.proofs.open_at.Goals as goal

pub returns-in_err-table-clause-judged : goal.returns-in_err-table-clause-judged
returns-in_err-table-clause-judged c =
    let p = err_from_is_err_and c.from_residual.result c.from_residual.ensures.1 in
    rw (p.1, p.2) (judged-bytes _ _ _ c.in_err-table.ensures.judged (number-some _))

pub returns-then-t-ge-END-clause-judged : goal.returns-then-t-ge-END-clause-judged
unfolding E
returns-then-t-ge-END-clause-judged c = rw (← c.in_ok-table.ensures.lent) (judged-late _ _ c.in_ok-table.table.opened.clear (omega (arith, c.if-t-ge-END.true)))

pub returns-clause-judged : goal.returns-clause-judged
unfolding E
returns-clause-judged c = rw (← c.in_ok-table.ensures.lent) (judged-fine _ _ c.in_ok-table.table.opened.clear (omega (arith, c.if-t-ge-END.false)))
