-- The roles that the blocks so far give to the number are gathered; a block without it gives none.
use Rattle.std.proofs.Common.{◌∙◌, arith}
use Rattle.bitset.proofs.GatherLaws.{gather_none}
use Rattle.rota.specs.Believed.RotaBytes.{roles_of}
use Rattle.rota_answers.specs.Gathered.{roles_of_number}
use Rattle.rota_answers.proofs.GatherRows.{of_number, role_at, pass-rows}
use Rattle.rota_answers.proofs.rows.Rows.roles_of.Goals as goal
use Rattle.rota_answers.proofs.rows.Rows.roles_of.Goals.{then-any_numbered, else-any_numbered}

pub loop-k-init : goal.loop-k-init
unfolding roles_of_number
loop-k-init c =
    let a = c.args in
    let r = a.self.now in
    (omega arith, gather_none (roles_of r.bytes.now) (omega (arith, r.lent.roles-most)) (of_number r.bytes.now a.set r.at a.x) (role_at r.bytes.now r.at))

pub loop-k-preserved : goal.loop-k-preserved
loop-k-preserved c =
    let i = c.loop-k.invariant in (
      omega arith,
      elim c.if-any_numbered.branch [
        | then-any_numbered w ↦ w.roles-is ∙ w.roles_from-roles.ensures
        | else-any_numbered w ↦ w.roles-is ∙ i.1 ∙ pass-rows _ _ _ _ _ (c.any_numbered.ensures w.if-any_numbered.false)
      ],
    )
