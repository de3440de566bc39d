-- The roles so far whose hours hold are gathered.
use Rattle.std.proofs.Common.{ap, ◌∙◌, arith}
use native.Mathlib.Nat.{le_antisymm}
use Rattle.bitset.proofs.SetLaws.{set_of-none, turn_in, turn-out}
use Rattle.hours.specs.Inside.{ref_in}
use Rattle.rota.specs.Believed.RotaBytes.{role_ref}
use Rattle.rota.proofs.LocatedLaws.{counted}
use Rattle.rota_answers.specs.Gathered.{roles_enabled}
use Rattle.rota_answers.proofs.AskedLaws.{few-hours, roles-fine}
use Rattle.rota_answers.proofs.GatherRows.{role-refers, role-tested}
use Rattle.rota_answers.proofs.roles_enabled.Goals as goal
use Rattle.rota_answers.proofs.roles_enabled.Goals.{then-ref_holds, else-ref_holds}

pub loop-k-init : goal.loop-k-init
unfolding roles_enabled
loop-k-init c = set_of-none _

pub overflow_add-l : goal.overflow_add-l
overflow_add-l c = omega (arith, roles-fine _ _ c.args.rota.now.located)

pub bounds-rota-l : goal.bounds-rota-l
bounds-rota-l c = omega (arith, roles-fine _ _ c.args.rota.now.located)

pub ref_holds-requires : goal.ref_holds-requires
ref_holds-requires c =
    let w = c.args.rota.now.located in
    (role-refers _ _ _ (roles-fine _ _ w) _ c.loop-k-test.true _ _ (counted _ _ w).hours c.decode.ensures, few-hours _ _ w)

pub with-roles-requires : goal.with-roles-requires
with-roles-requires c = omega (arith, roles-fine _ _ c.args.rota.now.located)

pub loop-k-preserved : goal.loop-k-preserved
unfolding roles_enabled
loop-k-preserved c =
    let a = c.args in
    let f = roles-fine _ _ a.rota.now.located in
    let i = c.loop-k in
    elim c.if-ref_holds.branch [
      | then-ref_holds w ↦ turn_in i.k (λ r. ref_in a.set (role_ref a.rota.now.bytes.now r)) (omega (arith, f.few)) _ _ _ i.invariant (role-tested _ _ _ f _ _ _ _ c.decode.ensures c.ref_holds.ensures) w.if-ref_holds.true (w.roles-is ∙ w.with-roles.ensures)
      | else-ref_holds w ↦ turn-out i.k (λ r. ref_in a.set (role_ref a.rota.now.bytes.now r)) (omega (arith, f.few)) _ _ _ i.invariant (role-tested _ _ _ f _ _ _ _ c.decode.ensures c.ref_holds.ensures) w.if-ref_holds.false w.roles-is
    ]

pub returns : goal.returns
returns c =
    c.loop-k.invariant ∙ ap (roles_enabled _ _) (le_antisymm c.loop-k.auto.k-end c.loop-k-test.false ∙ (counted _ _ c.args.rota.now.located).roles)
