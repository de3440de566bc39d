-- The pairs so far are done, and the cells before `from` lie before the next.
use lib.ListN.{length}
use Rattle.rewrite_grid.proofs.JoinLaws.{Pairing}
use Rattle.rewrite_grid.proofs.fill_record.Given as goal

abbrev pub invariant-loop-q : goal.invariant-loop-q
invariant-loop-q l = Pairing l.s l.at l.cells (length l.initial.sets) l.k l.initial.sets l.sets l.from l.q
