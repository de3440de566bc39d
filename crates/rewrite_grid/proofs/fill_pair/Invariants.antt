-- The cells so far are done.
use lib.ListN.{length}
use Rattle.rewrite_grid.proofs.JoinLaws.{Filling}
use Rattle.rewrite_grid.proofs.fill_pair.Given as goal

abbrev pub invariant-loop-j : goal.invariant-loop-j
invariant-loop-j l = Filling l.cells (length l.initial.sets) l.o l.e l.k l.initial.sets l.sets l.j
