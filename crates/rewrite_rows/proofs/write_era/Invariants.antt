-- A run of cells with one mark goes on over a stretch, or ends before it.
use Rattle.rewrite_rows.specs.Parts.{stretch_rows}
use Rattle.rewrite_rows.proofs.EraLaws.{InEra}
use Rattle.rewrite_rows.proofs.write_era.Given as goal

abbrev pub invariant-loop-j : goal.invariant-loop-j
invariant-loop-j l = InEra l.base l.begin l.end l.nc l.cells l.kinds l.lens l.marks (stretch_rows l.base l.begin l.end l.cells l.nc l.kinds l.lens l.marks) l.at l.initial.out l.j l.c l.low l.run l.p l.out
