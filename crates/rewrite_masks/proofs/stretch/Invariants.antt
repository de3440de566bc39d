use Rattle.rewrite_masks.proofs.RowLaws.{Alike}
use Rattle.rewrite_masks.proofs.stretch.Given as goal

abbrev pub invariant-loop-l : goal.invariant-loop-l
invariant-loop-l l = Alike l.row l.c l.l
