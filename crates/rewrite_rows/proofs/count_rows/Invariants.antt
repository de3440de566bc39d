-- Eras so far are counted.
use Rattle.rewrite_rows.specs.Parts.{field_marks}
use Rattle.rewrite_rows.proofs.CountLaws.{Counting}
use Rattle.rewrite_rows.proofs.count_rows.Given as goal

abbrev pub invariant-loop-e : goal.invariant-loop-e
invariant-loop-e l = Counting l.ne l.ends (field_marks l.marks l.kinds) l.e l.rows
