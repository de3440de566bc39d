-- No row outside what is left to look at covers the minute.
use Rattle.std.proofs.Common.{◌-◌, ◌≤◌, ◌<◌}
use Rattle.table_search.proofs.StageLaws.{Narrowed}
use Rattle.table_search.proofs.row_at.Given as goal

abbrev pub invariant-loop-a : goal.invariant-loop-a
invariant-loop-a l = Narrowed l.moment.table.bytes.now l.role l.moment.minute l.a l.b × (l.a < l.b → (l.a ≤ l.m) × (l.m < l.b))

abbrev pub decreases-loop-a : goal.decreases-loop-a
decreases-loop-a l = l.b - l.a
