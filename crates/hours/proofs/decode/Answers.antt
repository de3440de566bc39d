use Rattle.hours.specs.Believed.Hours.{ref_of}
use borrow.Author.Tests.{eq-eqb, ne_eqb}
use Rattle.hours.proofs.decode.Goals as goal

pub returns-then-b-eq255 : goal.returns-then-b-eq255
unfolding ref_of
returns-then-b-eq255 c = simp (eq-eqb _ _ c.if-b-eq255.true)

pub returns-else-b-eq255 : goal.returns-else-b-eq255
unfolding ref_of
returns-else-b-eq255 c = simp (ne_eqb _ _ c.if-b-eq255.false)
