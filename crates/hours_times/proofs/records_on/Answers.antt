-- The records so far that hold at the minute are gathered.
use Rattle.std.proofs.Common.{◌∙◌, arith}
use Rattle.hours.specs.Inside.{holding}
use Rattle.hours_reader.proofs.WalkLaws.{gather_none, gather-in, gather-out, gather-all}
use Rattle.hours_times.proofs.SpanLaws.{passed-ready, span-there}
use Rattle.hours_times.proofs.records_on.Goals as goal
use Rattle.hours_times.proofs.records_on.Goals.{then-is_some, else-is_some}

pub loop-k-init : goal.loop-k-init
loop-k-init c = gather_none _ _ _ _

pub record_span-requires : goal.record_span-requires
record_span-requires c = let p = c.requires in (passed-ready c.loop-k.invariant.passed p.0 c.loop-k-test.true, p.2, p.3, p.4, c.phase-x.ensures)

pub next_record-at-requires : goal.next_record-at-requires
next_record-at-requires c = (passed-ready c.loop-k.invariant.passed c.requires.0 c.loop-k-test.true).within

pub loop-k-preserved : goal.loop-k-preserved
loop-k-preserved c =
    let l = c.loop-k.invariant in
    let e = c.is_some.ensures ∙ span-there _ _ _ _ c.record_span.ensures.none c.record_span.ensures.some in
    elim c.if-is_some.branch [
      | then-is_some w ↦ gather-in _ _ _ _ l c.loop-k-test.true (omega (arith, c.requires.1)) e c.next_record-at.ensures w.if-is_some.true (w.set-is ∙ w.with-set.ensures)
      | else-is_some w ↦ gather-out _ _ _ _ l c.loop-k-test.true (omega (arith, c.requires.1)) e c.next_record-at.ensures w.if-is_some.false w.set-is
    ]

pub returns : goal.returns
unfolding holding
returns c = gather-all _ _ _ _ c.loop-k.invariant (omega arith)
