use Rattle.std.proofs.Common.{sym, ◌∙◌, arith}
use Rattle.ground.proofs.SearchLaws.{any_none, any-more, any-stop}
use Rattle.rota_rows.proofs.rest_out.Goals as goal

pub loop-k-init : goal.loop-k-init
loop-k-init c = any_none _

pub returns-then-row_out : goal.returns-then-row_out
returns-then-row_out c = sym (any-stop _ _ _ (omega arith) (sym c.row_out.ensures ∙ c.if-row_out.true))

pub loop-k-preserved : goal.loop-k-preserved
loop-k-preserved c = any-more _ _ c.loop-k.invariant (sym c.row_out.ensures ∙ c.if-row_out.false)
