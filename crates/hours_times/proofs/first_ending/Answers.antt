-- The first pair that ends after the phase is from `low` to `high`.
use native.Mathlib.Omega.{arith}
use Rattle.hours_times.proofs.SpanLaws.{halved_none, halved-low, halved-high, halved-all}
use Rattle.hours_times.proofs.first_ending.Goals as goal

pub loop-low-init : goal.loop-low-init
loop-low-init c = halved_none _ _ _ _

pub overflow_sub-j : goal.overflow_sub-j
overflow_sub-j c = omega (arith, c.loop-low.invariant.between)

pub overflow_add-j : goal.overflow_add-j
overflow_add-j c = omega (arith, c.loop-low.invariant.most, c.requires.1, c.requires.0.within)

pub overflow_add-at : goal.overflow_add-at
overflow_add-at c = omega (arith, c.loop-low.invariant.most, c.requires.1, c.requires.0.within)

pub overflow_mul-j : goal.overflow_mul-j
overflow_mul-j c = omega (arith, c.loop-low.invariant.most, c.requires.1, c.requires.0.within, c.loop-low-test.true)

pub overflow_add-at-in-loop-low : goal.overflow_add-at-in-loop-low
overflow_add-at-in-loop-low c = omega (arith, c.loop-low.invariant.most, c.requires.1, c.requires.0.within, c.loop-low-test.true)

pub read16-offset-requires : goal.read16-offset-requires
read16-offset-requires c = omega (arith, c.loop-low.invariant.most, c.requires.1, c.requires.0.within, c.loop-low-test.true)

pub overflow_add-at-in-loop-low-2 : goal.overflow_add-at-in-loop-low-2
overflow_add-at-in-loop-low-2 c = omega (arith, c.loop-low.invariant.most, c.requires.1, c.requires.0.within, c.loop-low-test.true)

pub overflow_mul-j-in-loop-low : goal.overflow_mul-j-in-loop-low
overflow_mul-j-in-loop-low c = omega (arith, c.loop-low.invariant.most, c.requires.1, c.requires.0.within, c.loop-low-test.true)

pub overflow_add-at-in-loop-low-3 : goal.overflow_add-at-in-loop-low-3
overflow_add-at-in-loop-low-3 c = omega (arith, c.loop-low.invariant.most, c.requires.1, c.requires.0.within, c.loop-low-test.true)

pub overflow_add-at-in-loop-low-4 : goal.overflow_add-at-in-loop-low-4
overflow_add-at-in-loop-low-4 c = omega (arith, c.loop-low.invariant.most, c.requires.1, c.requires.0.within, c.loop-low-test.true)

pub read16-requires : goal.read16-requires
read16-requires c = omega (arith, c.loop-low.invariant.most, c.requires.1, c.requires.0.within, c.loop-low-test.true)

pub loop-low-smaller-then-x-end : goal.loop-low-smaller-then-x-end
loop-low-smaller-then-x-end c = omega (arith, c.loop-low-test.true)

pub loop-low-preserved-then-x-end : goal.loop-low-preserved-then-x-end
loop-low-preserved-then-x-end c = let p = c.requires in halved-low _ _ _ p.0 c.loop-low.invariant p.1 _ _ _ (omega arith) (omega (arith, c.loop-low-test.true)) c.read16-offset.ensures (omega (arith, c.read16.ensures)) c.if-x-end.true

pub overflow_add-low : goal.overflow_add-low
overflow_add-low c = omega (arith, c.loop-low.invariant.most, c.requires.1, c.requires.0.within, c.loop-low-test.true)

pub loop-low-smaller : goal.loop-low-smaller
loop-low-smaller c = omega (arith, c.loop-low-test.true)

pub loop-low-preserved : goal.loop-low-preserved
loop-low-preserved c = let p = c.requires in halved-high _ _ _ p.0 c.loop-low.invariant p.1 _ _ _ (omega arith) (omega (arith, c.loop-low-test.true)) c.read16-offset.ensures (omega (arith, c.read16.ensures)) c.if-x-end.false

pub returns : goal.returns
returns c = halved-all c.loop-low.invariant c.loop-low-test.false
