-- One user row after the other.
use Rattle.rota_holding.proofs.RestLaws.{Rested}
use Rattle.rota_holding.proofs.found_by_rows.Given as goal

abbrev pub invariant-loop-k : goal.invariant-loop-k
invariant-loop-k l = Rested l.rota.bytes.now l.set l.among l.found l.on l.k
