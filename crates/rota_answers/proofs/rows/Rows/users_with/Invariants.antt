-- The users to whom the rows so far give one of the roles are gathered.
use Rattle.rota_answers.specs.Gathered.{users_with}
use Rattle.std.proofs.Common.{◌≡◌}
use Rattle.rota_answers.proofs.rows.Rows.users_with.Given as goal

abbrev pub invariant-loop-k : goal.invariant-loop-k
invariant-loop-k l = l.users ≡ users_with l.self.bytes.now l.set l.roles l.self.at l.k
