use Rattle.rota_answers.proofs.AskedLaws.{answer-no, answer-yes}
use Rattle.rota_answers.proofs.answer_in.Goals as goal

pub returns-then-roles-eq0 : goal.returns-then-roles-eq0
returns-then-roles-eq0 c = answer-no _ _ c.args.rota.now.located _ _ c.requires c.holding_at.ensures _ _ _ c.question_roles-roles.ensures c.if-roles-eq0.true

pub returns-else-roles-eq0 : goal.returns-else-roles-eq0
returns-else-roles-eq0 c = answer-yes _ _ c.args.rota.now.located _ _ c.requires c.holding_at.ensures _ _ _ _ c.question_roles-roles.ensures c.lowest.ensures.0
