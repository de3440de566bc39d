-- The masks so far are those of the era's fields so far.
use Rattle.std.proofs.Common.{◌≡◌, take}
use Rattle.ground.specs.Believed.Sequence.{list_of}
use Rattle.rewrite_grid.specs.Grid.{mask_in}
use Rattle.rewrite_grid.proofs.era_masks.Given as goal

abbrev pub invariant-loop-j : goal.invariant-loop-j
invariant-loop-j l = take l.j l.masks ≡ list_of l.j (mask_in l.cycle l.dates l.b l.e l.cells l.pairs)
