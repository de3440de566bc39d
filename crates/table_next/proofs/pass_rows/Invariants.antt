-- `least` is the first minute that the rows so far give.
use Rattle.std.proofs.Common.{◌≡◌}
use Rattle.table_next.specs.FirstUse.{first_of_rows}
use Rattle.table_next.proofs.pass_rows.Given as goal

abbrev pub invariant-loop-k : goal.invariant-loop-k
invariant-loop-k l = l.least ≡ first_of_rows l.table.bytes.now l.u l.p l.m l.below l.k
