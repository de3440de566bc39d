-- What is left of the role's rows, written from here, is the whole.
use Rattle.rewrite_rows.proofs.EraLaws.{InRole}
use Rattle.rewrite_rows.proofs.write_rows.Given as goal

abbrev pub invariant-loop-e : goal.invariant-loop-e
invariant-loop-e l = InRole l.base l.ne l.nc l.eras l.cells l.kinds l.lens l.ends l.marks l.at l.initial.out l.e l.p l.out
