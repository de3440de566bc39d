-- The records so far are not refused, and their pairs are counted; the first that is refused decides.
use Rattle.std.proofs.Common.{arith}
use Rattle.std.proofs.lemmas.Result.{err_from_is_err_and}
use Rattle.hours_reader.proofs.WalkLaws.{walked_none, walked_stop, fits-here, walked_more, walked_all}
use Rattle.hours_reader.proofs.judge_all.Goals as goal

pub loop-k-init : goal.loop-k-init
loop-k-init c = walked_none _ _ _ c.requires

pub returns-in_err-n : goal.returns-in_err-n
returns-in_err-n c =
    let p = err_from_is_err_and c.from_residual.result c.from_residual.ensures.1 in
    rw (p.1, p.2) (walked_stop _ _ _ _ _ _ c.loop-k.invariant _ _ c.loop-k-test.true c.in_err-n.ensures)

pub overflow_add-at : goal.overflow_add-at
overflow_add-at c = omega (arith, fits-here _ _ _ _ _ _ c.loop-k.invariant _ c.in_ok-n.ensures)

pub overflow_add-at-in-loop-k : goal.overflow_add-at-in-loop-k
overflow_add-at-in-loop-k c = omega (arith, fits-here _ _ _ _ _ _ c.loop-k.invariant _ c.in_ok-n.ensures)

pub overflow_add-total : goal.overflow_add-total
overflow_add-total c = omega (arith, fits-here _ _ _ _ _ _ c.loop-k.invariant _ c.in_ok-n.ensures)

pub loop-k-preserved : goal.loop-k-preserved
loop-k-preserved c = walked_more _ _ _ _ _ _ c.loop-k.invariant _ c.in_ok-n.ensures

pub returns : goal.returns
returns c = walked_all _ _ _ _ _ _ _ c.loop-k.invariant c.loop-k.auto._k-end c.loop-k-test.false
