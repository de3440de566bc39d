-- In the words of the bytes.
use Rattle.rota_answers.proofs.AskedLaws.{permissions-fine}
use Rattle.rota_holding.proofs.RestLaws.{roles-most, permitted-as}
use Rattle.rota_holding.proofs.permitted_hours.Goals as goal

pub permitted-requires : goal.permitted-requires
permitted-requires c = (permissions-fine _ _ c.args.rota.now.located, roles-most _ _ c.args.rota.now.located)

pub returns : goal.returns
returns c = permitted-as _ _ c.args.rota.now.located c.permitted.ensures
