use native.Mathlib.Omega.{arith}
use mathlib.Core.Path.{refl}
use lib.ListN.{length-set}
use Rattle.rewrite_index.specs.Entries.{linked}
use Rattle.rewrite_index.proofs.link.Goals as goal

pub bounds-links-w : goal.bounds-links-w
bounds-links-w c = simp length-set (omega arith)

pub bounds-links-w-2 : goal.bounds-links-w-2
bounds-links-w-2 c = simp length-set (omega arith)

pub returns : goal.returns
unfolding linked
returns c = refl
