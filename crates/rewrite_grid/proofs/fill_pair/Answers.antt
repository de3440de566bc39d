use Rattle.rewrite_grid.proofs.JoinLaws.{fill_stop}
use Rattle.rewrite_grid.proofs.fill_pair.Goals as goal

pub returns-then-e-x : goal.returns-then-e-x
returns-then-e-x c = let w = c.loop-j.invariant in let p = c.requires in (fill_stop w p.5 p.2 c.if-e-x.true, w.below, w.behind)
