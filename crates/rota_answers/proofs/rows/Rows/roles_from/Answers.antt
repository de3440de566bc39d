-- The roles that the rows so far give to the number are gathered, those before the first included.
use Rattle.std.proofs.Common.{refl, ◌∙◌, arith}
use Rattle.bitset.proofs.GatherLaws.{gather-in, gather-out}
use Rattle.rota.specs.Believed.RotaBytes.{roles_of}
use Rattle.rota_answers.specs.Gathered.{roles_of_number}
use Rattle.rota_answers.proofs.GatherRows.{of_number, role_at}
use Rattle.rota_answers.proofs.rows.Rows.roles_from.Goals as goal
use Rattle.rota_answers.proofs.rows.Rows.roles_from.Goals.{then-gives, else-gives}

pub loop-k-preserved : goal.loop-k-preserved
unfolding roles_of_number
loop-k-preserved c =
    let a = c.args in
    let r = a.self.now in
    let i = c.loop-k in
    elim c.if-gives.branch [
      | then-gives w ↦ gather-in (roles_of r.bytes.now) (omega (arith, r.lent.roles-most)) (of_number r.bytes.now a.set r.at a.x) (role_at r.bytes.now r.at) _ _ _ _ _ i.invariant c.gives.ensures w.role.ensures (omega (arith, w.role.ensures, (r.lent.fine.each i.k (omega (arith, c.loop-k-test.true, c.requires))).role)) w.if-gives.true (w.roles-is ∙ w.with-roles.ensures)
      | else-gives w ↦ gather-out (roles_of r.bytes.now) (omega (arith, r.lent.roles-most)) (of_number r.bytes.now a.set r.at a.x) (role_at r.bytes.now r.at) _ _ _ _ _ i.invariant c.gives.ensures refl w.if-gives.false w.roles-is
    ]
