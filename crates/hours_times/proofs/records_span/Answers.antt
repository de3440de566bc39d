-- Of the records so far: the shortest times of those that count.
use Rattle.std.proofs.Common.{◌∙◌, sym, arith}
use Rattle.minutes.specs.Believed.Minutes.{E}
use Rattle.hours_times.proofs.SpanLaws.{spans-none, spans-more, spans-off, spans-past, spans_all, record-ready}
use Rattle.hours_times.proofs.records_span.Goals as goal
use Rattle.hours_times.proofs.records_span.Goals.{then-contains+in-Some, then-contains+in_default, else-contains}

pub loop-k-init : goal.loop-k-init
unfolding E
loop-k-init c = spans-none _ _ _ _ _ _ c.requires.4

pub record_span-requires : goal.record_span-requires
record_span-requires c = let p = c.requires in (record-ready c.loop-k.invariant p.0 c.loop-k-test.true, p.2, p.3, p.4, c.phase-x.ensures)

pub next_record-at-requires : goal.next_record-at-requires
next_record-at-requires c = (record-ready c.loop-k.invariant c.requires.0 c.loop-k-test.true).within

pub loop-k-preserved : goal.loop-k-preserved
loop-k-preserved c =
    let l = c.loop-k.invariant in
    let m = c.loop-k-test.true in
    elim c.if-contains.branch [
      | then-contains+in-Some w ↦ spans-more l m c.next_record-at.ensures w.in-Some.ensures.some (w.until-is ∙ w.min-until.ensures) (w.era-is ∙ w.min-era.ensures)
      | then-contains+in_default w ↦ spans-off l m c.next_record-at.ensures w.in_default.ensures.none w.until-is w.era-is
      | else-contains w ↦ spans-past l m c.next_record-at.ensures (sym c.contains.ensures ∙ w.if-contains.false) w.until-is w.era-is
    ]

pub returns : goal.returns
returns c = spans_all c.loop-k.invariant (omega arith)
