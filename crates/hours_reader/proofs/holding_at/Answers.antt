-- The records so far that hold at the minute are gathered.
use mathlib.Core.Path.{◌∙◌}
use Rattle.hours.specs.Inside.{holding}
use Rattle.hours_reader.proofs.WalkLaws.{passed-fine, gather_none, gather-in, gather-out, gather-all}
use native.Mathlib.Omega.{arith}
use Rattle.hours_reader.proofs.holding_at.Goals as goal
use Rattle.hours_reader.proofs.holding_at.Goals.{then-record_holds, else-record_holds}

pub loop-k-init : goal.loop-k-init
loop-k-init c = gather_none _ _ _ _

pub record_holds-requires : goal.record_holds-requires
record_holds-requires c = ((passed-fine c.loop-k.invariant.passed _ c.requires.0 c.loop-k-test.true).within, c.requires.2)

pub next_record-at-requires : goal.next_record-at-requires
next_record-at-requires c = (passed-fine c.loop-k.invariant.passed _ c.requires.0 c.loop-k-test.true).within

pub loop-k-preserved : goal.loop-k-preserved
loop-k-preserved c = elim c.if-record_holds.branch [
  | then-record_holds w ↦ gather-in _ _ _ _ c.loop-k.invariant c.loop-k-test.true (omega arith) c.record_holds.ensures c.next_record-at.ensures w.if-record_holds.true (w.set-is ∙ w.with-set.ensures)
  | else-record_holds w ↦ gather-out _ _ _ _ c.loop-k.invariant c.loop-k-test.true (omega arith) c.record_holds.ensures c.next_record-at.ensures w.if-record_holds.false w.set-is
]

pub returns : goal.returns
unfolding holding
returns c = gather-all _ _ _ _ c.loop-k.invariant c.loop-k-test.false
