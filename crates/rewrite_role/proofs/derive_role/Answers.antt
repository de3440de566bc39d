use Rattle.rewrite_role.proofs.DerivedLaws.{role-derived-to}
use Rattle.rewrite_role.proofs.LocatedLaws.{role-on}
use Rattle.rewrite_role.proofs.derive_role.Goals as goal

pub derive-requires : goal.derive-requires
derive-requires c = let a = c.args in let p = c.requires in (role-on a.s.now a.l p.0 a.r _ p.1 c.read_role.ensures, p.2)

pub returns : goal.returns
returns c = let a = c.args in let p = c.requires in role-derived-to a.s.now p.0.accepted a.r p.1 _ c.read_role.ensures a.sets.now a.n p.3 p.2.for-sets a.limit _ _ _ c.derive.ensures
