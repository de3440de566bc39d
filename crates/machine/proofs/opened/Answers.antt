use Rattle.std.proofs.lemmas.Result.{err_from_is_err_and}
use Rattle.std.proofs.Common.{refl, arith}
use Rattle.machine.proofs.CoreLaws.{settled-refused, settled-as, open-inside}
use Rattle.machine.specs.Core.{opened_step}
use Rattle.refusal.proofs.RefusalLaws.{number-some}
use Rattle.machine.proofs.opened.Goals as goal

pub returns-in_err-judge_open : goal.returns-in_err-judge_open
unfolding opened_step
returns-in_err-judge_open c = let p = err_from_is_err_and c.from_residual.result c.from_residual.ensures.1 in rw (p.1, p.2) (settled-refused _ _ _ _ _ c.in_err-judge_open.ensures (number-some _))

pub with-requires : goal.with-requires
with-requires c = omega (arith, open-inside _ _ _ _ _ c.in_ok-judge_open.ensures refl)

pub returns : goal.returns
unfolding opened_step
returns c = settled-as _ _ _ _ _ _ _ c.with.ensures c.in_ok-judge_open.ensures refl
