-- The roles that the rows so far give to the number are gathered, those before the first included.
use Rattle.rota_answers.specs.Gathered.{roles_of_number}
use Rattle.std.proofs.Common.{◌≡◌}
use Rattle.rota_answers.proofs.rows.Rows.roles_from.Given as goal

abbrev pub invariant-loop-k : goal.invariant-loop-k
invariant-loop-k l = l.roles ≡ roles_of_number l.self.bytes.now l.set l.self.at l.k l.x
