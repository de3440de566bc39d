-- The rows so far that cover the minute are counted, and the permissions of their entries are with their users.
use Rattle.table_board.proofs.RowLaws.{ByRows}
use Rattle.table_board.proofs.pass_rows.Given as goal

abbrev pub invariant-loop-i : goal.invariant-loop-i
invariant-loop-i l = ByRows l.moment.table.bytes.now l.moment.minute l.i l.rights l.rows
