use Rattle.std.proofs.Common.{◌-◌, length}
use Rattle.rewrite_masks.proofs.RowLaws.{Numbering}
use Rattle.rewrite_masks.proofs.number_row.Given as goal

abbrev pub invariant-loop-c : goal.invariant-loop-c
invariant-loop-c l = Numbering l.row l.initial.kinds l.initial.lens l.first l.initial.masks l.kinds l.lens l.masks l.j l.c

abbrev pub decreases-loop-c : goal.decreases-loop-c
decreases-loop-c l = length l.row - l.c
