-- Rows so far, and those that begin in the stretches that are left, are all.
use Rattle.rewrite_rows.specs.Parts.{field_marks}
use Rattle.rewrite_rows.proofs.CountLaws.{InCount}
use Rattle.rewrite_rows.proofs.count_era.Given as goal

abbrev pub invariant-loop-kind : goal.invariant-loop-kind
invariant-loop-kind l = InCount (field_marks l.marks l.kinds) l.kind-index l.prior l.rows
