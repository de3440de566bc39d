use Rattle.std.proofs.Common.{arith, ◌∙◌}
use Rattle.rewrite_role.proofs.LocatedLaws.{role-inside, users-fit, permissions-fit, role-is}
use Rattle.rewrite_role.proofs.read_role.Goals as goal

pub overflow_add-at : goal.overflow_add-at
overflow_add-at c = let a = c.args in omega (arith, role-inside a.s.now a.l c.requires.0 a.r c.requires.1)

pub bounds-s-at : goal.bounds-s-at
bounds-s-at c = let a = c.args in role-inside a.s.now a.l c.requires.0 a.r c.requires.1

pub by_slot-users-requires : goal.by_slot-users-requires
by_slot-users-requires c = let a = c.args in users-fit a.s.now a.l c.requires.0

pub by_slot-permissions-requires : goal.by_slot-permissions-requires
by_slot-permissions-requires c = let a = c.args in permissions-fit a.s.now a.l c.requires.0

pub returns : goal.returns
returns c = let a = c.args in role-is a.s.now a.l c.requires.0 a.r _ _ _ _ c.requires.1 c.decode.ensures c.slot-role.ensures (c.load.ensures ∙ c.by_slot-users.ensures) (c.load-2.ensures ∙ c.by_slot-permissions.ensures)
