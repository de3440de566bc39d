-- One place of the links changes, the one at which the walk that seeks the new pair ended: every other walk is as it was.
use mathlib.Core.Path.{refl}
use Rattle.rewrite_index.specs.Entries.{with_pair}
use Rattle.rewrite_index.proofs.LinkLaws.{index-add}
use Rattle.rewrite_index.proofs.add.Goals as goal

pub link-requires : goal.link-requires
link-requires c = let p = c.requires in (p.d_in_bounds.1, p.d_in_bounds.2, p.d_in_bounds.4, p.indexed.4.within)

pub returns : goal.returns
unfolding with_pair
returns c = let a = c.args in let p = c.requires in (refl, index-add a.w p.d_in_bounds.3 a.d a.pairs.now a.u a.p p.d_in_bounds.0 p.indexed.0 p.d_in_bounds.1 p.indexed.1 p.indexed.2 p.indexed.3 p.indexed.4 _ c.link.ensures)
