use Rattle.rewrite_sets.specs.Role.{role_in}
use Rattle.rewrite_derive.proofs.DeriveLaws.{Going}
use Rattle.rewrite_derive.proofs.derive.Given as goal

abbrev pub invariant-loop-i : goal.invariant-loop-i
invariant-loop-i l = Going (role_in l.role) l.sets l.n l.w l.pairs l.marks l.links l.d l.last l.mark l.i
