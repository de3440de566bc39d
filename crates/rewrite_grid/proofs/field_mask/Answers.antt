use Rattle.rewrite_grid.proofs.MaskLaws.{field-some, field-none}
use Rattle.rewrite_grid.proofs.field_mask.Goals as goal

pub returns-then-first_in-e : goal.returns-then-first_in-e
returns-then-first_in-e c = field-some _ _ _ _ _ _ _ _ c.first_in.ensures _ _ c.if-first_in-e.true c.both.ensures c.with.ensures

pub returns-else-first_in-e : goal.returns-else-first_in-e
returns-else-first_in-e c = field-none _ _ _ _ _ _ _ _ c.first_in.ensures c.if-first_in-e.false
