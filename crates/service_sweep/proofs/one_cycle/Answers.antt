-- The sweep has come from the turn's minute to y.
use Rattle.std.proofs.Common.{arith}
use Rattle.minutes.specs.Believed.Minutes.{E}
use Rattle.policy.proofs.SteadyLaws.{swept_none, swept-more, swept_all, swept-over}
use Rattle.source.proofs.LentLaws.{few, cycle-fine}
use Rattle.service_sweep.proofs.one_cycle.Goals as goal

pub overflow_add-far : goal.overflow_add-far
unfolding E
overflow_add-far c = let p = c.requires in omega (arith, (cycle-fine c.args.source.now).1, c.cycle.ensures, p.0, p.1)

pub loop-y-init : goal.loop-y-init
loop-y-init c = let p = c.requires in (swept_none _ _ _ _ _ p.0 p.2, omega arith, p.3, p.4)

pub returns-then-stays-eq0 : goal.returns-then-stays-eq0
returns-then-stays-eq0 c =
    let i = c.loop-y.invariant in
    (swept-over _ i.0 _ i.1 c.if-stays-eq0.true, c.requires.0, omega arith, i.2, i.3)

pub overflow_add-y : goal.overflow_add-y
unfolding E
overflow_add-y c = let i = c.loop-y.invariant in omega (arith, c.loop-y-test.true, c.min.ensures, i.1, i.3, c.requires.1)

pub held_near-h-requires : goal.held_near-h-requires
held_near-h-requires c =
    let i = c.loop-y.invariant in
    let p = c.requires in
    let y = c.loop-y-test.true in
    let q = c.min.ensures in
    (omega (arith, y, q, i.1, p.1), omega (arith, y, q, i.2, c.min-in-loop-y.ensures), p.5)

pub overflow_sub-ahead : goal.overflow_sub-ahead
overflow_sub-ahead c = omega (arith, c.min-in-loop-y-2.ensures, c.min-e.ensures, c.held_near-h.ensures.after, c.held_near-h.ensures.longer, c.loop-y-test.true, c.min.ensures)

pub overflow_mul-ahead : goal.overflow_mul-ahead
unfolding E
overflow_mul-ahead c = omega (arith, c.min-in-loop-y-2.ensures, c.min-e.ensures, c.held_near-h.ensures.era-most)

pub loop-y-smaller : goal.loop-y-smaller
loop-y-smaller c = omega (arith, c.held_near-h.ensures.after, c.loop-y-test.true, c.min.ensures, c.loop-y.invariant.1)

pub loop-y-preserved : goal.loop-y-preserved
loop-y-preserved c =
    let i = c.loop-y.invariant in
    let h = c.held_near-h.ensures in
    let y = c.loop-y-test.true in
    let q = c.min.ensures in
    let e = c.min-e.ensures in
    let a = c.min-in-loop-y-2.ensures in (
      swept-more _ i.0 (few c.args.source.now) (omega (arith, y, q)) h (omega (arith, e)),
      omega (arith, e, i.1),
      omega (arith, a, e, h.after, h.longer, y, q),
      omega (arith, a, e, h.era-most),
    )

pub returns : goal.returns
returns c =
    let i = c.loop-y.invariant in
    (swept_all _ i.0 (cycle-fine c.args.source.now).0 (omega (arith, c.loop-y-test.false, c.min.ensures, c.cycle.ensures)), i.0.some, i.1, i.2, i.3)
