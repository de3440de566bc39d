-- The row gives a live role, so it, its role, and a permission of the role have hours that hold.
use mathlib.Core.Path.{refl}
use native.Mathlib.Omega.{arith}
use Rattle.rota_holding.proofs.RestLaws.{row_here, role-here, role-as, role-below, role-few, can-meet, grown-here}
use Rattle.rota_holding.proofs.rest_on.Goals as goal

pub overflow_mul-i : goal.overflow_mul-i
overflow_mul-i c = let p = c.requires in omega (arith, row_here _ _ c.args.rota.now.located _ p.1)

pub overflow_add-i : goal.overflow_add-i
overflow_add-i c = let p = c.requires in omega (arith, row_here _ _ c.args.rota.now.located _ p.1)

pub overflow_add-role : goal.overflow_add-role
overflow_add-role c = let p = c.requires in omega (arith, row_here _ _ c.args.rota.now.located _ p.1)

pub bounds-s-i : goal.bounds-s-i
bounds-s-i c = let p = c.requires in omega (arith, row_here _ _ c.args.rota.now.located _ p.1)

pub overflow_cast-role : goal.overflow_cast-role
overflow_cast-role c = let p = c.requires in omega (arith, role-few _ _ c.args.rota.now.located _ p.1)

pub offset_bounds-sets-role : goal.offset_bounds-sets-role
offset_bounds-sets-role c = let p = c.requires in omega (arith, role-few _ _ c.args.rota.now.located _ p.1)

pub bounds-sets-role : goal.bounds-sets-role
bounds-sets-role c = let p = c.requires in omega (arith, role-few _ _ c.args.rota.now.located _ p.1)

pub choose-permission-requires : goal.choose-permission-requires
choose-permission-requires c = let p = c.requires in can-meet _ _ c.args.rota.now.located _ p.0 _ _ p.1 p.2 (role-as _ _ c.args.rota.now.located _ p.1)

pub overflow_add-rota : goal.overflow_add-rota
overflow_add-rota c = let p = c.requires in omega (arith, role-here _ _ c.args.rota.now.located _ (role-below _ _ c.args.rota.now.located _ p.1))

pub number_at-own-requires : goal.number_at-own-requires
number_at-own-requires c = let p = c.requires in role-here _ _ c.args.rota.now.located _ (role-below _ _ c.args.rota.now.located _ p.1)

pub overflow_add-i-2 : goal.overflow_add-i-2
overflow_add-i-2 c = let p = c.requires in omega (arith, row_here _ _ c.args.rota.now.located _ p.1)

pub number_at-requires : goal.number_at-requires
number_at-requires c = let p = c.requires in omega (arith, row_here _ _ c.args.rota.now.located _ p.1)

pub with_three-requires : goal.with_three-requires
with_three-requires c = (omega (arith, c.choose-permission.ensures.2, c.number_at-own.ensures.1, c.number_at.ensures.1), omega (arith, c.choose-permission.ensures.2, c.number_at-own.ensures.1, c.number_at.ensures.1), omega (arith, c.choose-permission.ensures.2, c.number_at-own.ensures.1, c.number_at.ensures.1))

pub returns : goal.returns
returns c = let p = c.requires in let e = c.choose-permission.ensures in grown-here _ _ c.args.rota.now.located _ p.1 _ p.0 _ p.2 refl e.0 e.1 e.2 c.number_at-own.ensures.0 c.number_at.ensures.0 c.with_three.ensures
