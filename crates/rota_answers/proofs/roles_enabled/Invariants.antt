-- The roles so far whose hours hold are gathered.
use Rattle.rota_answers.specs.Gathered.{roles_enabled}
use Rattle.std.proofs.Common.{◌≡◌}
use Rattle.rota_answers.proofs.roles_enabled.Given as goal

abbrev pub invariant-loop-k : goal.invariant-loop-k
invariant-loop-k l = l.roles ≡ roles_enabled l.rota.bytes.now l.set l.k
