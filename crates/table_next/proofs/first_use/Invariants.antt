-- `best` is the first minute that the rows so far give; they are passed in blocks, and a block may be passed by its first and last row.
use Rattle.std.proofs.Common.{◌≡◌, ◌≤◌, ◌-◌}
use Rattle.table_next.specs.FirstUse.{first_of_rows}
use Rattle.table_next.proofs.first_use.Given as goal

abbrev pub invariant-loop-k : goal.invariant-loop-k
invariant-loop-k l = (l.k ≤ l.rows) × (l.best ≡ first_of_rows l.table.bytes.now l.u l.p l.m l.below l.k)

abbrev pub decreases-loop-k : goal.decreases-loop-k
decreases-loop-k l = l.rows - l.k
