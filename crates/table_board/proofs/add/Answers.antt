-- The users who are left, added to what there is, give what is asked for.
use Rattle.std.proofs.Common.{◌∙◌, sym}
use lib.ListN.{length-set}
use Rattle.table_board.proofs.AddLaws.{added_none, added-turn}
use Rattle.table_board.proofs.add.Goals as goal

pub loop-u-preserved : goal.loop-u-preserved
loop-u-preserved c =
    let l = c.loop-u in
    let (_, w, small, left) = c.in-Some.ensures.steps in (
      length-set l.rights _ _ ∙ l.invariant.0,
      l.invariant.1 ∙ added-turn l.rights l.u-iterator.rest _ _ l.invariant.0 small w.member _ _ c.either.ensures left,
    )

pub returns : goal.returns
returns c = let l = c.loop-u in sym (l.invariant.1 ∙ added_none l.rights l.u-iterator.rest _ l.invariant.0 c.in-None.ensures.steps.0)
