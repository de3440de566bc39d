-- Each cell has those of the records so far whose pairs hold in it.
use lib.ListN.{length}
use Rattle.hours_reader.proofs.WalkLaws.{Passed}
use Rattle.rota.specs.Believed.RotaBytes.{header_length}
use Rattle.rewrite_grid.specs.Grid.{InCells}
use Rattle.rewrite_grid.proofs.cell_masks.Given as goal

abbrev pub invariant-loop-k : goal.invariant-loop-k
invariant-loop-k l = Passed l.s (header_length l.s) l.h l.k l.at × InCells l.s l.k l.cells (length l.initial.pairs) l.pairs
