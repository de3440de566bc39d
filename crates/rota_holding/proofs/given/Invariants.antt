-- The roles so far are gathered.
use mathlib.Core.Path.{◌≡◌}
use Rattle.rota_holding.specs.Rests.{roles_given}
use Rattle.rota_holding.proofs.given.Given as goal

abbrev pub invariant-loop-k : goal.invariant-loop-k
invariant-loop-k l = l.roles ≡ roles_given l.set l.sets l.k
