-- The rise from a row to the next is by role, then number, then hours.
use Rattle.std.proofs.Common.{ap, ◌∙◌}
use Rattle.ground.specs.Believed.Search.{one}
use Rattle.rota_rows.proofs.FallLaws.{falls-zero, byte-one}
use Rattle.rota_rows.proofs.next_falls.Goals as goal

pub returns : goal.returns
returns c =
    c.from.ensures ∙ byte-one _
    ∙ ap one (falls-zero _ _ (λ i. (c.type_inv.s i).fits) _ _ _ c.saturating_sub-by_hours.ensures c.rise-by_number.ensures c.rise.ensures)
