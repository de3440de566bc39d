-- A role that is reached hands on to its enabled juniors, and one that is not hands on nothing.
use mathlib.Core.Path.{refl}
use Rattle.rota_pairs.proofs.ReachLaws.{reach-none, reach-in, reach-out}
use Rattle.rota_pairs.proofs.+reach.Goals as goal

pub returns-then-n-eq0 : goal.returns-then-n-eq0
returns-then-n-eq0 t c = reach-none _ _ _ _ c.if-n-eq0.true

pub returns-then-contains : goal.returns-then-contains
returns-then-contains t c =
    reach-in _ _ _ _ _ _ c.if-n-eq0.false refl c.contains.ensures _ _ _ c.if-contains.true c.both-more.ensures c.either.ensures c.reach.ensures

pub returns : goal.returns
returns t c = reach-out _ _ _ _ _ _ c.if-n-eq0.false refl c.contains.ensures _ c.if-contains.false c.reach-2.ensures
