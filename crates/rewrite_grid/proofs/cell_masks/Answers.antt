-- Each cell has those of the records so far whose pairs hold in it.
use native.Mathlib.Omega.{arith}
use Rattle.hours_reader.proofs.WalkLaws.{passed_none, passed-more}
use Rattle.rewrite_cuts.proofs.RecordLaws.{walk-within, few-hours}
use Rattle.rewrite_grid.proofs.JoinLaws.{cleared, in-cells-none, in-cells-more}
use Rattle.rewrite_grid.proofs.cell_masks.Goals as goal

pub loop-k-init : goal.loop-k-init
loop-k-init c = (rw c.requires.1 (passed_none _ _ _), in-cells-none _ _ _ _ (cleared _ _ (c.fill.ensures.after (λ y h. h))))

pub next_record-at-requires : goal.next_record-at-requires
next_record-at-requires c = walk-within c.loop-k.invariant.0 c.requires.0 c.requires.2 c.loop-k-test.true

pub loop-k-preserved : goal.loop-k-preserved
loop-k-preserved c =
    let p = c.requires in
    let w = c.loop-k.invariant in
    let l = c.loop-k-test.true in (
      passed-more w.0 l c.next_record-at.ensures,
      in-cells-more _ _ _ (omega (arith, l, p.2, few-hours _ p.0)) w.0.here w.1 (rw c.loop-k.auto.pairs at c.fill_record.ensures),
    )
