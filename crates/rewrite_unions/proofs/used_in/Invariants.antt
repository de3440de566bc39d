-- The slots below k whose sets are not empty are gathered.
use Rattle.std.proofs.Common.{◌≡◌}
use Rattle.bitset.specs.Believed.Sets.{set_of}
use Rattle.rewrite_unions.specs.Union.{in_use}
use Rattle.rewrite_unions.proofs.used_in.Given as goal

abbrev pub invariant-loop-k : goal.invariant-loop-k
invariant-loop-k l = l.used ≡ set_of l.k (in_use l.sets)
