-- The pairs so far are done, and the cells before `from` lie before the next.
use native.Mathlib.Omega.{arith}
use Rattle.rewrite_cuts.proofs.RecordLaws.{few-hours}
use Rattle.rewrite_grid.proofs.JoinLaws.{record-well, pair-start, pair-ready, pair-more, pairs-joined}
use Rattle.rewrite_grid.proofs.fill_record.Goals as goal

pub overflow_add-at : goal.overflow_add-at
overflow_add-at c = omega (arith, (record-well _ _ _ c.requires.0 c.requires.1 c.requires.2).within)

pub read16-count-requires : goal.read16-count-requires
read16-count-requires c = omega (arith, (record-well _ _ _ c.requires.0 c.requires.1 c.requires.2).within)

pub loop-q-init : goal.loop-q-init
loop-q-init c = pair-start _ _ _ _ _ _

pub overflow_add-at-in-loop-q : goal.overflow_add-at-in-loop-q
overflow_add-at-in-loop-q c = omega (arith, (record-well _ _ _ c.requires.0 c.requires.1 c.requires.2).within, c.read16-count.ensures)

pub overflow_add-at-in-loop-q-2 : goal.overflow_add-at-in-loop-q-2
overflow_add-at-in-loop-q-2 c = omega (arith, (record-well _ _ _ c.requires.0 c.requires.1 c.requires.2).within, c.read16-count.ensures)

pub read16-offset-requires : goal.read16-offset-requires
read16-offset-requires c = omega (arith, (record-well _ _ _ c.requires.0 c.requires.1 c.requires.2).within, c.read16-count.ensures)

pub overflow_add-at-in-loop-q-3 : goal.overflow_add-at-in-loop-q-3
overflow_add-at-in-loop-q-3 c = omega (arith, (record-well _ _ _ c.requires.0 c.requires.1 c.requires.2).within, c.read16-count.ensures)

pub overflow_add-at-in-loop-q-4 : goal.overflow_add-at-in-loop-q-4
overflow_add-at-in-loop-q-4 c = omega (arith, (record-well _ _ _ c.requires.0 c.requires.1 c.requires.2).within, c.read16-count.ensures)

pub overflow_add-at-in-loop-q-5 : goal.overflow_add-at-in-loop-q-5
overflow_add-at-in-loop-q-5 c = omega (arith, (record-well _ _ _ c.requires.0 c.requires.1 c.requires.2).within, c.read16-count.ensures)

pub read16-requires : goal.read16-requires
read16-requires c = omega (arith, (record-well _ _ _ c.requires.0 c.requires.1 c.requires.2).within, c.read16-count.ensures)

pub fill_pair-from-requires : goal.fill_pair-from-requires
fill_pair-from-requires c =
    let p = c.requires in
    let w = c.loop-q.invariant in
    let f = record-well _ _ _ p.0 p.1 p.2 in (
      omega (arith, p.3, w.long),
      omega (arith, few-hours _ p.0, p.1),
      omega arith,
      omega (arith, w.most, w.long),
      pair-ready w _ _ c.read16-offset.ensures c.read16.ensures f (omega (arith, c.read16-count.ensures)),
      rw w.long p.4,
    )

pub loop-q-preserved : goal.loop-q-preserved
loop-q-preserved c =
    let f = c.fill_pair-from in
    let w = c.loop-q.invariant in
    pair-more w _ _ c.read16-offset.ensures c.read16.ensures (omega (arith, c.read16-count.ensures)) f.auto.sets (rw w.long at f.ensures)

pub returns : goal.returns
returns c = pairs-joined c.loop-q.invariant (omega (arith, c.loop-q-test.false, c.read16-count.ensures))
