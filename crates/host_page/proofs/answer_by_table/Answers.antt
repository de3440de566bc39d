use Rattle.source.specs.declared.Kind.TheVariants.{Table}
use Rattle.host_page.proofs.PageLaws.{one-answered}
use Rattle.host_page.proofs.answer_by_table.Goals as goal

pub returns : goal.returns
returns c = one-answered Table _ _ _ _ c.put.ensures c.question_by.ensures
