-- The roles that the blocks so far give to the number are gathered; a block without it gives none.
use mathlib.Core.Path.{◌≡◌}
use Prim.Native.Nat.{◌≤◌, ◌-◌}
use Rattle.rota_answers.specs.Gathered.{roles_of_number}
use Rattle.rota_answers.proofs.rows.Rows.roles_of.Given as goal

abbrev pub invariant-loop-k : goal.invariant-loop-k
invariant-loop-k l = (l.k ≤ l.self.n) × (l.roles ≡ roles_of_number l.self.bytes.now l.set l.self.at l.k l.x)

abbrev pub decreases-loop-k : goal.decreases-loop-k
decreases-loop-k l = l.self.n - l.k
