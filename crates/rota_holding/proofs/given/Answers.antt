-- The roles so far are gathered.
use mathlib.Core.Path.{refl, ◌∙◌}
use native.Mathlib.Nat.{le_antisymm}
use native.Mathlib.Omega.{arith}
use Rattle.rota_holding.proofs.PermittedLaws.{given-none, given-in, given_out}
use Rattle.rota_holding.proofs.given.Goals as goal
use Rattle.rota_holding.proofs.given.Goals.{then-both-ne0, else-both-ne0}

pub loop-k-init : goal.loop-k-init
loop-k-init c = given-none _ _

pub loop-k-preserved : goal.loop-k-preserved
loop-k-preserved c =
    let l = c.loop-k in
    elim c.if-both-ne0.branch [ then-both-ne0 w ↦ given-in _ _ _ _ _ _ _ _ (omega (arith, c.requires, c.loop-k-test.true)) l.invariant c.with-on.ensures refl c.both.ensures w.if-both-ne0.true (w.roles-is ∙ w.with-roles.ensures) | else-both-ne0 w ↦ given_out _ _ _ _ _ _ _ _ (omega (arith, c.requires, c.loop-k-test.true)) l.invariant c.with-on.ensures refl c.both.ensures w.if-both-ne0.false w.roles-is ]
