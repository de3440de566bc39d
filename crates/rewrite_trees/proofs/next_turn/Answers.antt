use Rattle.rewrite_trees.proofs.TurnLaws.{turned-users, turned-permissions}
use Rattle.rewrite_trees.proofs.next_turn.Goals as goal

pub returns-then-a-eq0 : goal.returns-then-a-eq0
returns-then-a-eq0 c = let a = c.args in turned-permissions a.a a.b a.u a.p c.if-a-eq0.true c.turn_by-side.ensures

pub returns-else-a-eq0 : goal.returns-else-a-eq0
returns-else-a-eq0 c = let a = c.args in turned-users a.a a.b a.u a.p c.turn_by-side-else-a-eq0.ensures
