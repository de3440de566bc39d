-- The walk stands where the turns so far lead; each turn takes a member away, so that there are no more turns than members.
use Prim.Native.Nat.{◌+◌}
use Rattle.bitset.specs.Believed.Sets.{count}
use Rattle.rewrite_trees.proofs.WalkLaws.{Seeking}
use Rattle.rewrite_trees.proofs.walk.Given as goal

abbrev pub invariant-loop-w : goal.invariant-loop-w
invariant-loop-w g l = Seeking l.w l.n (g.S.Sought.list l.sought) l.links l.a l.b l.u l.p l.rest_a l.rest_b l.hook

abbrev pub decreases-loop-w : goal.decreases-loop-w
decreases-loop-w g l = count l.rest_a + count l.rest_b
