-- The pairs so far are not refused.
use Rattle.std.proofs.Common.{arith}
use Rattle.rota_pairs.proofs.PairLaws.{pair-good, senior-bad, junior-bad, judged-none, judged-more, judged-stop}
use Rattle.rota_pairs.proofs.judge_pairs.Goals as goal

pub loop-k-init : goal.loop-k-init
loop-k-init c = judged-none _ _ _

pub returns-then-roles-senior : goal.returns-then-roles-senior
returns-then-roles-senior c =
    judged-stop _ _ _ _ _ (omega (arith, c.loop-k-test.true)) c.loop-k.invariant (senior-bad _ _ (omega (arith, c.if-roles-senior.true)))

pub returns-then-senior-junior : goal.returns-then-senior-junior
returns-then-senior-junior c =
    judged-stop _ _ _ _ _ (omega (arith, c.loop-k-test.true)) c.loop-k.invariant (junior-bad _ _ (omega (arith, c.if-senior-junior.true)))

pub loop-k-preserved : goal.loop-k-preserved
loop-k-preserved c = judged-more _ _ _ _ c.loop-k.invariant (pair-good _ _ c.if-roles-senior.false c.if-senior-junior.false)
