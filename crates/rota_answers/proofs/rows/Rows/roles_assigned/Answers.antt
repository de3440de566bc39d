-- The roles that the rows so far give are gathered.
use Rattle.std.proofs.Common.{◌∙◌, arith}
use Rattle.bitset.proofs.GatherLaws.{gather_none, gather-in, gather-out}
use Rattle.rota.specs.Believed.RotaBytes.{roles_of}
use Rattle.rota_answers.specs.Gathered.{roles_assigned, row_in}
use Rattle.rota_answers.proofs.GatherRows.{role_at}
use Rattle.rota_answers.proofs.rows.Rows.roles_assigned.Goals as goal
use Rattle.rota_answers.proofs.rows.Rows.roles_assigned.Goals.{then-holds, else-holds}

pub loop-k-init : goal.loop-k-init
unfolding roles_assigned
loop-k-init c =
    let a = c.args in
    let r = a.self.now in
    gather_none (roles_of r.bytes.now) (omega (arith, r.lent.roles-most)) (λ i. row_in r.bytes.now a.set r.at i) (role_at r.bytes.now r.at)

pub loop-k-preserved : goal.loop-k-preserved
unfolding roles_assigned
loop-k-preserved c =
    let a = c.args in
    let r = a.self.now in
    let i = c.loop-k in
    elim c.if-holds.branch [
      | then-holds w ↦ gather-in (roles_of r.bytes.now) (omega (arith, r.lent.roles-most)) (λ i. row_in r.bytes.now a.set r.at i) (role_at r.bytes.now r.at) _ _ _ _ _ i.invariant c.holds.ensures c.role-role.ensures (omega (arith, c.role-role.ensures, (r.lent.fine.each i.k c.loop-k-test.true).role)) w.if-holds.true (w.given-is ∙ w.with-given.ensures)
      | else-holds w ↦ gather-out (roles_of r.bytes.now) (omega (arith, r.lent.roles-most)) (λ i. row_in r.bytes.now a.set r.at i) (role_at r.bytes.now r.at) _ _ _ _ _ i.invariant c.holds.ensures c.role-role.ensures w.if-holds.false w.given-is
    ]
