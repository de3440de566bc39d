-- The roles that the rows so far give are gathered.
use Rattle.rota_answers.specs.Gathered.{roles_assigned}
use Rattle.std.proofs.Common.{◌≡◌}
use Rattle.rota_answers.proofs.rows.Rows.roles_assigned.Given as goal

abbrev pub invariant-loop-k : goal.invariant-loop-k
invariant-loop-k l = l.given ≡ roles_assigned l.self.bytes.now l.set l.self.at l.k
