use Rattle.std.proofs.Common.{ap₂, ◌∙◌}
use Rattle.std.specs.Prelude.{bit_or}
use Rattle.rota_rows.proofs.FallLaws.{rise-joined}
use Rattle.rota_rows.proofs.rise.Goals as goal

pub returns : goal.returns
returns c = ap₂ bit_or c.saturating_sub.ensures c.where_equal.ensures ∙ rise-joined _ _ _
