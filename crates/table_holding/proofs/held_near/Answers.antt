-- What the roles below r give.
use Rattle.std.proofs.Common.{arith}
use Rattle.minutes.specs.Believed.Minutes.{E}
use Rattle.table_holding.proofs.HeldLaws.{held_none, held_all, held-everyone, roles-are, roles-few}
use Rattle.table_holding.proofs.held_near.Goals as goal

pub loop-r-init : goal.loop-r-init
unfolding E
loop-r-init c = held_none _ c.args.table.now.opened.clear _ _ _ c.requires.0 c.requires.1

pub returns-then-h-among : goal.returns-then-h-among
returns-then-h-among c = held-everyone _ c.args.table.now.opened.clear _ _ _ _ _ _ c.loop-r.invariant c.if-h-among.true

pub pass_role-h-requires : goal.pass_role-h-requires
pass_role-h-requires c =
    let a = c.at-moment.ensures in
    (omega (arith, c.loop-r-test.true, roles-few _ _ c.args.table.now.opened), rw a.0 c.requires.0, rw (a.0, a.1) c.loop-r.invariant)

pub loop-r-preserved : goal.loop-r-preserved
loop-r-preserved c = let a = c.at-moment.ensures in rw (a.0, a.1) at c.pass_role-h.ensures

pub returns : goal.returns
returns c = held_all _ c.args.table.now.opened.clear _ _ _ _ _ _ c.loop-r.invariant (omega (arith, c.loop-r-test.false, roles-are _ _ c.args.table.now.opened))
