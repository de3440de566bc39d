-- No pair so far has the phase.
use mathlib.Core.Path.{◌∙◌}
use Rattle.ground.proofs.SearchLaws.{any_none, any-more}
use Rattle.hours.proofs.HoldsLaws.{span-is, pairs-yes, pairs-no}
use Rattle.hours.proofs.pairs_hold.Goals as goal

pub loop-j-init : goal.loop-j-init
loop-j-init c = any_none _

pub returns-then-in_span : goal.returns-then-in_span
returns-then-in_span c = pairs-yes _ _ _ _ c.read16-n.ensures _ c.loop-j-test.true
    (span-is _ _ _ _ c.read16-n.ensures _ _ _ _ c.read16-offset.ensures c.read16-length.ensures c.in_span.ensures ∙ c.if-in_span.true)

pub loop-j-preserved : goal.loop-j-preserved
loop-j-preserved c = any-more _ _ c.loop-j.invariant
    (span-is _ _ _ _ c.read16-n.ensures _ _ _ _ c.read16-offset.ensures c.read16-length.ensures c.in_span.ensures ∙ c.if-in_span.false)

pub returns : goal.returns
returns c = pairs-no _ _ _ _ c.read16-n.ensures _ c.loop-j.auto.j-end c.loop-j-test.false c.loop-j.invariant
