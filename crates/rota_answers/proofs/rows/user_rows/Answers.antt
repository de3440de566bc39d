use Rattle.rota.proofs.LocatedLaws.{counted, user-rows-at}
use Rattle.rota_answers.proofs.AskedLaws.{users-lent}
use Rattle.rota_answers.proofs.rows.user_rows.Goals as goal

pub invariant_of-result : goal.invariant_of-result
invariant_of-result c = record { lent = users-lent _ _ c.args.rota.now.located }

pub returns-clause-place : goal.returns-clause-place
returns-clause-place c = let w = c.args.rota.now.located in (user-rows-at _ _ w, (counted _ _ w).user-rows)

pub returns-clause-top : goal.returns-clause-top
returns-clause-top c = (counted _ _ c.args.rota.now.located).users
