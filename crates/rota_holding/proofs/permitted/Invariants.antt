-- Each role has the hours of its rows so far.
use Rattle.rota_holding.specs.Rests.{Permitted}
use Rattle.rota_holding.proofs.permitted.Given as goal

abbrev pub invariant-loop-k : goal.invariant-loop-k
invariant-loop-k l = Permitted l.s l.at l.k l.sets
