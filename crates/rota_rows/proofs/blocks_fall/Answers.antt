use Rattle.std.proofs.Common.{sym, ◌∙◌, arith}
use Rattle.ground.proofs.SearchLaws.{any_none, any-more, any-stop}
use Rattle.rota_rows.proofs.blocks_fall.Goals as goal

pub loop-i-init : goal.loop-i-init
loop-i-init c = any_none _

pub returns-then-block_falls : goal.returns-then-block_falls
returns-then-block_falls c = sym (any-stop _ _ _ (omega arith) (sym c.block_falls.ensures ∙ c.if-block_falls.true))

pub loop-i-preserved : goal.loop-i-preserved
loop-i-preserved c = any-more _ _ c.loop-i.invariant (sym c.block_falls.ensures ∙ c.if-block_falls.false)
