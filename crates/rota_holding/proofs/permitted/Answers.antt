-- Each role has the hours of its rows so far.
use mathlib.Core.Path.{refl}
use native.Mathlib.Nat.{le_antisymm}
use native.Mathlib.Omega.{arith}
use Rattle.rota_answers.proofs.GatherRows.{row_within}
use Rattle.rota_holding.proofs.PermittedLaws.{permitted-none, permitted-more}
use Rattle.rota_holding.proofs.permitted.Goals as goal

pub loop-k-init : goal.loop-k-init
loop-k-init c = permitted-none _ _

pub overflow_mul-i : goal.overflow_mul-i
overflow_mul-i c = omega (arith, row_within _ _ _ _ c.requires.0 _ c.loop-k-test.true)

pub overflow_add-i : goal.overflow_add-i
overflow_add-i c = omega (arith, row_within _ _ _ _ c.requires.0 _ c.loop-k-test.true)

pub overflow_add-role : goal.overflow_add-role
overflow_add-role c = omega (arith, row_within _ _ _ _ c.requires.0 _ c.loop-k-test.true)

pub bounds-s-i : goal.bounds-s-i
bounds-s-i c = omega (arith, row_within _ _ _ _ c.requires.0 _ c.loop-k-test.true)

pub overflow_cast-role : goal.overflow_cast-role
overflow_cast-role c = let p = c.requires in omega (arith, p.1, (p.0.each _ c.loop-k-test.true).role)

pub offset_bounds-sets-role : goal.offset_bounds-sets-role
offset_bounds-sets-role c = let p = c.requires in omega (arith, p.1, (p.0.each _ c.loop-k-test.true).role)

pub bounds-sets-role : goal.bounds-sets-role
bounds-sets-role c = let p = c.requires in omega (arith, p.1, (p.0.each _ c.loop-k-test.true).role)

pub overflow_add-i-in-loop-k : goal.overflow_add-i-in-loop-k
overflow_add-i-in-loop-k c = omega (arith, row_within _ _ _ _ c.requires.0 _ c.loop-k-test.true)

pub number_at-requires : goal.number_at-requires
number_at-requires c = omega (arith, row_within _ _ _ _ c.requires.0 _ c.loop-k-test.true)

pub with-requires : goal.with-requires
with-requires c = c.number_at.ensures.1

pub offset_bounds-sets-role-in-loop-k : goal.offset_bounds-sets-role-in-loop-k
offset_bounds-sets-role-in-loop-k c = let p = c.requires in omega (arith, p.1, (p.0.each _ c.loop-k-test.true).role)

pub bounds-sets-role-in-loop-k : goal.bounds-sets-role-in-loop-k
bounds-sets-role-in-loop-k c = let p = c.requires in omega (arith, p.1, (p.0.each _ c.loop-k-test.true).role)

pub loop-k-preserved : goal.loop-k-preserved
loop-k-preserved c =
    let p = c.requires in
    permitted-more _ _ _ _ c.loop-k.invariant _ _ _ _ refl (omega (arith, p.1, (p.0.each _ c.loop-k-test.true).role)) c.number_at.ensures.0 c.with.ensures refl
