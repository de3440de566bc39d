-- The users to whom the rows so far give one of the roles are gathered.
use Rattle.std.proofs.Common.{◌∙◌, arith}
use Rattle.bitset.proofs.GatherLaws.{gather_none, gather-in, gather-out}
use Rattle.rota.specs.Believed.RotaBytes.{users_of}
use Rattle.rota_answers.specs.Gathered.{users_with}
use Rattle.rota_answers.proofs.GatherRows.{number_at, with_role}
use Rattle.rota_answers.proofs.rows.Rows.users_with.Goals as goal
use Rattle.rota_answers.proofs.rows.Rows.users_with.Goals.{then-holds_for, else-holds_for}

pub loop-k-init : goal.loop-k-init
unfolding users_with
loop-k-init c =
    let a = c.args in
    let r = a.self.now in
    gather_none (users_of r.bytes.now) (omega (arith, r.lent.top-most, c.requires)) (with_role r.bytes.now a.set r.at a.roles) (number_at r.bytes.now r.at)

pub loop-k-preserved : goal.loop-k-preserved
unfolding users_with
loop-k-preserved c =
    let a = c.args in
    let r = a.self.now in
    let i = c.loop-k in
    elim c.if-holds_for.branch [
      | then-holds_for w ↦ gather-in (users_of r.bytes.now) (omega (arith, r.lent.top-most, c.requires)) (with_role r.bytes.now a.set r.at a.roles) (number_at r.bytes.now r.at) _ _ _ _ _ i.invariant c.holds_for.ensures c.number-user.ensures (omega (arith, c.number-user.ensures, c.requires, (r.lent.fine.each i.k c.loop-k-test.true).number)) w.if-holds_for.true (w.users-is ∙ w.with-users.ensures)
      | else-holds_for w ↦ gather-out (users_of r.bytes.now) (omega (arith, r.lent.top-most, c.requires)) (with_role r.bytes.now a.set r.at a.roles) (number_at r.bytes.now r.at) _ _ _ _ _ i.invariant c.holds_for.ensures c.number-user.ensures w.if-holds_for.false w.users-is
    ]
