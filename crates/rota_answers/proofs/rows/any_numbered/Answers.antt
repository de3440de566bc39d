use Rattle.std.proofs.Common.{sym, ◌∙◌, arith}
use Rattle.rota_answers.proofs.GatherRows.{none-numbered}
use Rattle.rota_answers.proofs.rows.any_numbered.Goals as goal

pub returns : goal.returns
returns c h = none-numbered _ (λ i. omega (arith, c.type_inv.s i)) _ _ (sym c.any_numbered.ensures ∙ h)
