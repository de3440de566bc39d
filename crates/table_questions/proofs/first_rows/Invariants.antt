-- For each role so far it is known where its rows begin; the next search begins at the last one's result.
use Rattle.std.proofs.Common.{◌≤◌}
use Rattle.table_questions.specs.Starts.{RowsBelow, FirstOf}
use Rattle.table_questions.proofs.first_rows.Given as goal

abbrev pub invariant-loop-k : goal.invariant-loop-k
invariant-loop-k l = FirstOf l.table.bytes.now l.k l.starts × (l.from ≤ l.table.counts.rows) × RowsBelow l.table.bytes.now l.k l.from
