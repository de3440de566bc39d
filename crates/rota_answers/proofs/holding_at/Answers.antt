use Rattle.rota_answers.proofs.AskedLaws.{records-fine, few-hours, some-cycle, held-as}
use Rattle.rota_answers.proofs.holding_at.Goals as goal

pub holding_at-requires : goal.holding_at-requires
holding_at-requires c = let w = c.args.rota.now.located in (records-fine _ _ w, few-hours _ _ w, some-cycle _ _ w)

pub returns : goal.returns
returns c = held-as _ _ c.args.rota.now.located _ _ c.holding_at.ensures
