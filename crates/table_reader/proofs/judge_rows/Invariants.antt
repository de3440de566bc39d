-- The rows so far are not refused, and the row before is at hand with its source.
use Rattle.table.specs.Inside.{window_given}
use Rattle.table_reader.proofs.RowLaws.{RowsWalked}
use Rattle.table_reader.proofs.judge_rows.Given as goal

abbrev pub invariant-loop-i : goal.invariant-loop-i
invariant-loop-i l = RowsWalked l.s l.n.rows l.i l.role (window_given l.before)
