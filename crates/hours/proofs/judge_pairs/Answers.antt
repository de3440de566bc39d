-- The pairs so far are not refused, and the next may start later than the last end.
use native.Mathlib.Omega.{arith}
use Rattle.hours.proofs.PairLaws.{pair-bad, pair-good, earliest-more, earliest-none}
use Rattle.ground.proofs.JudgementLaws.{turns-none, turns_more, turns-refused}
use mathlib.Core.Path.{sym}
use Rattle.hours.proofs.judge_pairs.Goals as goal

pub loop-j-init : goal.loop-j-init
loop-j-init c = (turns-none _, earliest-none _ _)

pub returns-then-pair_refused : goal.returns-then-pair_refused
returns-then-pair_refused c = sym (turns-refused _ _ _ 8 (omega arith) c.loop-j-test.true c.loop-j.invariant.0 (pair-bad _ _ _ _ _ c.read16-offset.ensures c.read16-length.ensures _ _ _ c.loop-j.invariant.1 c.pair_refused.ensures c.if-pair_refused.true))

pub loop-j-preserved : goal.loop-j-preserved
loop-j-preserved c = (turns_more _ _ c.loop-j.invariant.0 (pair-good _ _ _ _ _ c.read16-offset.ensures c.read16-length.ensures _ _ _ c.loop-j.invariant.1 c.pair_refused.ensures c.if-pair_refused.false), earliest-more _ _ _ _ _ c.read16-offset.ensures c.read16-length.ensures)
