use Rattle.std.proofs.lemmas.Result.{err_from_is_err_and}
use Rattle.rota.proofs.ReadLaws.{read-refused, read-given}
use Rattle.rota.proofs.read.Goals as goal

pub returns-in_err-l : goal.returns-in_err-l
returns-in_err-l c =
    let p = err_from_is_err_and c.from_residual.result c.from_residual.ensures.1 in
    rw (p.1, p.2) (read-refused _ _ c.in_err-l.ensures)

pub returns : goal.returns
returns c = read-given _ _ c.in_ok-l.ensures
