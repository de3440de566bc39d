-- The records that hold at the minute decide.
use Rattle.rota_answers.proofs.AskedLaws.{holders-at}
use Rattle.rota_answers.proofs.holders_in.Goals as goal

pub returns : goal.returns
returns c = holders-at _ _ c.args.rota.now.located _ _ c.requires c.holding_at.ensures _ c.holders_by.ensures
