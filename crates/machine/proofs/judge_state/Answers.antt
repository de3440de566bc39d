use Rattle.machine.proofs.CoreLaws.{state-late, state-fine, state-over}
use Rattle.minutes.specs.Believed.Minutes.{E}
use Rattle.machine.proofs.judge_state.Goals as goal

pub returns-then-service-ge-END : goal.returns-then-service-ge-END
unfolding E
returns-then-service-ge-END c = state-late _ _ c.if-service-ge-END.true

pub returns-then-not-all_below : goal.returns-then-not-all_below
unfolding E
returns-then-not-all_below c = state-over _ _ c.if-service-ge-END.false _ c.all_below.ensures c.if-not-all_below.true

pub returns : goal.returns
unfolding E
returns c = state-fine _ _ c.if-service-ge-END.false _ c.all_below.ensures c.if-not-all_below.false
