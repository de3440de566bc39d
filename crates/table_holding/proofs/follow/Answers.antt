-- The rows so far reach to phase `far`.
use Rattle.std.proofs.Common.{◌+◌, ap, arith}
use Rattle.minutes.specs.Believed.Minutes.{E, Window}
use Rattle.table_holding.proofs.HeldLaws.{reach-read, cycle-few}
use Rattle.table_holding.proofs.follow.Goals as goal

pub overflow_add-moment : goal.overflow_add-moment
unfolding E
overflow_add-moment c = omega (arith, c.loop-i.invariant.in-cycle, cycle-few _ _ c.args.moment.now.table.opened, c.requires.1)

pub loop-i-preserved : goal.loop-i-preserved
loop-i-preserved c =
    reach-read _ _ c.args.moment.now.table.opened _ (omega (arith, c.loop-i-test.true, c.rows-rows.ensures)) _ _ _ _ _ _ c.args.moment.now.in_cycle
    c.loop-i.invariant (c.goes_on.ensures c.if-not-goes_on.false) (ap (λ (w : Window). c.loop-i.far + w.length) c.window.ensures)
