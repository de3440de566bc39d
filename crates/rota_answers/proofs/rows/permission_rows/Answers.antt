use Rattle.rota.proofs.LocatedLaws.{counted, permission-rows-at}
use Rattle.rota_answers.proofs.AskedLaws.{permissions-lent}
use Rattle.rota_answers.proofs.rows.permission_rows.Goals as goal

pub invariant_of-result : goal.invariant_of-result
invariant_of-result c = record { lent = permissions-lent _ _ c.args.rota.now.located }

pub returns-clause-place : goal.returns-clause-place
returns-clause-place c = let w = c.args.rota.now.located in (permission-rows-at _ _ w, (counted _ _ w).permission-rows)

pub returns-clause-top : goal.returns-clause-top
returns-clause-top c = (counted _ _ c.args.rota.now.located).permissions
