-- The records so far whose dates hold are gathered.
use native.Mathlib.Omega.{arith}
use mathlib.Core.Path.{◌∙◌}
use Rattle.hours_reader.proofs.WalkLaws.{gather_none, gather-in, gather-out, gather-all}
use Rattle.rewrite_cuts.proofs.RecordLaws.{walk-within, few-hours}
use Rattle.rewrite_grid.proofs.era_mask.Goals as goal
use Rattle.rewrite_grid.proofs.era_mask.Goals.{then-dates_hold, else-dates_hold}

pub loop-k-init : goal.loop-k-init
loop-k-init c = rw c.requires.1 (gather_none _ _ _ _)

pub dates_hold-requires : goal.dates_hold-requires
dates_hold-requires c = omega (arith, walk-within c.loop-k.invariant.passed c.requires.0 c.requires.2 c.loop-k-test.true)

pub with-set-requires : goal.with-set-requires
with-set-requires c = omega (arith, few-hours _ c.requires.0)

pub next_record-at-requires : goal.next_record-at-requires
next_record-at-requires c = walk-within c.loop-k.invariant.passed c.requires.0 c.requires.2 c.loop-k-test.true

pub loop-k-preserved : goal.loop-k-preserved
loop-k-preserved c = let w = c.loop-k.invariant in
    let top = few-hours _ c.requires.0 in
    elim c.if-dates_hold.branch [
      | then-dates_hold v ↦ gather-in _ _ _ _ w c.loop-k-test.true (omega arith) c.dates_hold.ensures c.next_record-at.ensures v.if-dates_hold.true (v.set-is ∙ v.with-set.ensures)
      | else-dates_hold v ↦ gather-out _ _ _ _ w c.loop-k-test.true (omega arith) c.dates_hold.ensures c.next_record-at.ensures v.if-dates_hold.false v.set-is
    ]

pub returns : goal.returns
returns c = gather-all _ _ _ _ c.loop-k.invariant c.loop-k-test.false
