use Rattle.std.proofs.lemmas.Result.{err_from_is_err_and}
use Rattle.refusal.proofs.RefusalLaws.{number-some}
use Rattle.table_reader.proofs.ReadLaws.{shut, told}
use Rattle.table_reader.proofs.read.Goals as goal

pub returns-in_err-open : goal.returns-in_err-open
returns-in_err-open c =
    let p = err_from_is_err_and c.from_residual.result c.from_residual.ensures.1 in
    rw (p.1, p.2) (shut _ _ (number-some _) c.in_err-open.ensures.judged)

pub returns : goal.returns
returns c = rw (← c.in_ok-open.ensures.lent) (told _ _ c.in_ok-open.field-0.opened)
