-- The masks so far are those of the era's fields so far.
use mathlib.Core.Path.{refl}
use native.Mathlib.Omega.{arith}
use Rattle.ground.specs.Believed.Sequence.{list_of}
use Rattle.rewrite_grid.specs.Grid.{mask_in}
use Rattle.rewrite_grid.proofs.MaskLaws.{stored}
use Rattle.rewrite_grid.proofs.era_masks.Goals as goal

pub loop-j-init : goal.loop-j-init
unfolding list_of
loop-j-init c = refl

pub loop-j-preserved : goal.loop-j-preserved
unfolding mask_in
loop-j-preserved c = let l = c.loop-j in stored l.masks l.j _ _ (omega arith) l.invariant c.field_mask.ensures
