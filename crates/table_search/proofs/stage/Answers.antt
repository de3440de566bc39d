-- By the source role, then by the dates, then by the phase.
use Rattle.std.proofs.Common.{arith}
use Rattle.table_search.proofs.StageLaws.{row-covers}
use Rattle.table_search.proofs.stage.Goals as goal

pub returns-then-moment-offset-2 : goal.returns-then-moment-offset-2
returns-then-moment-offset-2 c =
    row-covers _ _ _ _ _ c.window-w.ensures (omega (arith, c.source-source.ensures)) c.if-moment-w.false (omega (arith, c.if-w-moment.false)) _
    c.args.moment.now.in_cycle c.if-moment-offset.false c.if-moment-offset-2.true
