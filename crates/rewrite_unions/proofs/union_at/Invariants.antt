-- The slots of the first q groups are in the union.
use Rattle.std.proofs.Common.{◌≡◌, ◌*◌}
use Rattle.rewrite_unions.specs.Union.{union_of}
use Rattle.rewrite_unions.proofs.union_at.Given as goal

abbrev pub invariant-loop-q : goal.invariant-loop-q
invariant-loop-q l = l.all ≡ union_of l.sets l.mask (4 * l.q)
