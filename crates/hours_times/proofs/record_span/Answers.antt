-- By the dates, and within them by the pairs.
use Rattle.std.proofs.Common.{arith}
use Rattle.minutes.specs.Believed.Minutes.{E}
use Rattle.hours_times.proofs.SpanLaws.{span-out, span-gap, span-in}
use Rattle.hours_times.proofs.record_span.Goals as goal

pub returns-then-not-dates_hold-clause-none : goal.returns-then-not-dates_hold-clause-none
returns-then-not-dates_hold-clause-none c = span-out _ _ _ c.dates_hold.ensures c.if-not-dates_hold.true

pub returns-in_err-end-clause-none : goal.returns-in_err-end-clause-none
returns-in_err-end-clause-none c = rw c.from_residual.ensures (span-gap _ _ _ _ c.requires.4 c.dates_hold.ensures c.if-not-dates_hold.false c.in_err-end.ensures.none)

pub overflow_add-result : goal.overflow_add-result
unfolding E
overflow_add-result c = omega (arith, c.in_ok-end.ensures.some.in-cycle, c.requires)

pub returns-clause-some : goal.returns-clause-some
returns-clause-some c =
    let p = c.requires in
    let r = c.in_ok-end.ensures.some in
    span-in _ _ _ _ _ p.4 r _ _ c.dates_hold.ensures c.if-not-dates_hold.false p.1 p.0.well.ends
    (omega (arith, r.after)) (omega arith) c.read32.ensures
