-- The users of the rows so far that cover the minute are gathered.
use Rattle.std.proofs.Common.{◌≡◌, arith}
use Rattle.table_answers.proofs.HoldersLaws.{gather_none, gather-more, gather-all}
use Rattle.table_answers.proofs.holders_in.Goals as goal

pub loop-i-init : goal.loop-i-init
loop-i-init c = gather_none _ _

pub loop-i-preserved : goal.loop-i-preserved
loop-i-preserved c = gather-more _ _ _ _ _ _ c.loop-i.invariant (rw (c.at-moment.ensures.0, c.at-moment.ensures.1) at c.row_users.ensures) c.either-set.ensures

pub returns : goal.returns
returns c =
    let e : c.loop-i.i ≡ c.args.table.now.counts.rows = omega (arith, c.loop-i.auto.i-end, c.loop-i-test.false, c.rows-i-end.ensures) in
    gather-all _ _ _ c.args.table.now.opened _ (rw (← e) c.loop-i.invariant)
