-- The rows so far reach to phase `far`.
use Rattle.table_holding.specs.Held.{Reaching}
use Rattle.table_holding.proofs.follow.Given as goal

abbrev pub invariant-loop-i : goal.invariant-loop-i
invariant-loop-i l = Reaching l.moment.table.bytes.now l.moment.minute l.moment.phase l.far l.era l.gain
