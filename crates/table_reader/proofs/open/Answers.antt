use Rattle.std.proofs.Common.{refl, sym}
use Rattle.std.proofs.lemmas.Result.{err_from_is_err_and}
use Rattle.refusal.proofs.RefusalLaws.{number-some}
use Rattle.table_reader.proofs.ReadLaws.{headed, by-header, by_entries, by_rows}
use Rattle.table_reader.proofs.open.Goals as goal

pub returns-in_err-counts-clause-judged : goal.returns-in_err-counts-clause-judged
returns-in_err-counts-clause-judged c =
    let p = err_from_is_err_and c.from_residual.result c.from_residual.ensures.1 in
    rw (p.1, p.2) (by-header _ _ c.in_err-counts.ensures)

pub judge_entries-requires : goal.judge_entries-requires
judge_entries-requires c = headed _ _ c.in_ok-counts.ensures

pub returns-in_err-judge_entries-clause-judged : goal.returns-in_err-judge_entries-clause-judged
returns-in_err-judge_entries-clause-judged c =
    let p = err_from_is_err_and c.from_residual-in_err-judge_entries.result c.from_residual-in_err-judge_entries.ensures.1 in
    rw (p.1, p.2) (by_entries _ _ (headed _ _ c.in_ok-counts.ensures) _ c.in_err-judge_entries.ensures (number-some _))

pub judge_rows-requires : goal.judge_rows-requires
judge_rows-requires c = headed _ _ c.in_ok-counts.ensures

pub returns-in_err-judge_rows-clause-judged : goal.returns-in_err-judge_rows-clause-judged
returns-in_err-judge_rows-clause-judged c =
    let p = err_from_is_err_and c.from_residual-in_err-judge_rows.result c.from_residual-in_err-judge_rows.ensures.1 in
    rw (p.1, p.2) (by_rows _ _ (headed _ _ c.in_ok-counts.ensures) _ c.in_ok-judge_entries.ensures refl _ c.in_err-judge_rows.ensures)

pub invariant_of-result : goal.invariant_of-result
invariant_of-result c =
    let h = headed _ _ c.in_ok-counts.ensures in
    record { opened = record { clear = sym (by_rows _ _ h _ c.in_ok-judge_entries.ensures refl _ c.in_ok-judge_rows.ensures); counts = h.counts } }
