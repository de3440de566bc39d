-- Only a row's first byte can lie in its range, where it is x.
use mathlib.Core.Path.{◌∙◌}
use Rattle.rota_rows.proofs.ScanLaws.{numbered}
use Rattle.rota_rows.proofs.any_numbered.Goals as goal

pub returns : goal.returns
returns c = c.block_out.ensures ∙ numbered _ _ _ c.pattern-low.ensures c.pattern-high.ensures _ _
