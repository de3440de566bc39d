-- Blocks of sixteen rows, and the rows left over, are all rows.
use mathlib.Core.Path.{sym, ◌∙◌}
use native.Mathlib.Omega.{arith}
use Rattle.ground.proofs.BoolLaws.{or_left, or-skip}
use Rattle.rota_rows.proofs.ScanLaws.{rows_split}
use Rattle.rota_rows.proofs.rows_out.Goals as goal

pub returns-then-n-lt16 : goal.returns-then-n-lt16
returns-then-n-lt16 c = c.rest_out.ensures

pub returns-then-blocks_out : goal.returns-then-blocks_out
returns-then-blocks_out c =
    sym
    (rows_split _ _ _ _ _ c.pattern-low.ensures c.pattern-high.ensures _
    (λ i. (c.type_inv.s i).fits) _ _ _ (omega arith)
    ∙ or_left _ _ (sym c.blocks_out.ensures ∙ c.if-blocks_out.true))

pub returns : goal.returns
returns c =
    c.rest_out-2.ensures
    ∙ sym
    (rows_split _ _ _ _ _ c.pattern-low.ensures c.pattern-high.ensures _
    (λ i. (c.type_inv.s i).fits) _ _ _ (omega arith)
    ∙ or-skip _ _ (sym c.blocks_out.ensures ∙ c.if-blocks_out.false))
