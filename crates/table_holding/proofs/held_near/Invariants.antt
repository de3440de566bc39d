-- What the roles below r give.
use Rattle.table_holding.specs.Held.{HeldBy}
use Rattle.table_holding.proofs.held_near.Given as goal

abbrev pub invariant-loop-r : goal.invariant-loop-r
invariant-loop-r l = HeldBy l.table.bytes.now l.r l.among l.t l.h.set l.h.until l.h.era
