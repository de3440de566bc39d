use Rattle.std.proofs.lemmas.Result.{err_from_is_err_and}
use Rattle.std.proofs.Common.{refl, arith}
use Rattle.machine.proofs.CoreLaws.{settled-refused, settled-as, close-inside}
use Rattle.machine.specs.Core.{closed_step}
use Rattle.refusal.proofs.RefusalLaws.{number-some}
use Rattle.machine.proofs.closed.Goals as goal

pub returns-in_err-judge_close : goal.returns-in_err-judge_close
unfolding closed_step
returns-in_err-judge_close c = let p = err_from_is_err_and c.from_residual.result c.from_residual.ensures.1 in rw (p.1, p.2) (settled-refused _ _ _ _ _ c.in_err-judge_close.ensures (number-some _))

pub without-requires : goal.without-requires
without-requires c = omega (arith, close-inside _ _ _ _ c.in_ok-judge_close.ensures refl)

pub returns : goal.returns
unfolding closed_step
returns c = settled-as _ _ _ _ _ _ _ c.without.ensures c.in_ok-judge_close.ensures refl
