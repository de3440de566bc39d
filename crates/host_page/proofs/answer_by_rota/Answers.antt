use Rattle.source.specs.declared.Kind.TheVariants.{Rota}
use Rattle.host_page.proofs.PageLaws.{one-answered}
use Rattle.host_page.proofs.answer_by_rota.Goals as goal

pub returns : goal.returns
returns c = one-answered Rota _ _ _ _ c.put.ensures c.question_in.ensures
