-- The rows of the roles so far at the minute are counted, and the permissions of their entries are with their users.
use Rattle.table_board.proofs.RowLaws.{ByRoles}
use Rattle.table_board.proofs.search_rows.Given as goal

abbrev pub invariant-loop-r : goal.invariant-loop-r
invariant-loop-r l = ByRoles l.moment.table.bytes.now l.moment.minute l.r l.rights l.count
