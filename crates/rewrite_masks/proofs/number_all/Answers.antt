use Prim.Native.Nat.{◌+◌, ◌≤◌}
use native.Mathlib.Omega.{arith}
use lib.ListN.{length, length-set}
use Rattle.rota.proofs.RotaFine.{rota-fine}
use Rattle.rewrite_masks.proofs.MaskLaws.{row_told}
use Rattle.rewrite_masks.proofs.EraLaws.{passed_none, end-room, passed-more, passed-all}
use Rattle.rewrite_masks.proofs.number_all.Goals as goal

pub loop-i-init : goal.loop-i-init
loop-i-init c = let p = c.requires.room in passed_none _ _ _ _ _ _ c.args.ends.now _ (omega (arith, p.0.for-ends)) p.1 p.2

pub era_masks-requires : goal.era_masks-requires
era_masks-requires c =
    let p = c.requires.ready in
    let l = c.loop-i in
    let f = (rota-fine _ p.0.accepted).header in (
      omega (arith, f.cycle-some, p.0.cycle-is),
      omega (arith, f.cycle-most, p.0.cycle-is),
      p.0.era-cuts.most l.i (omega arith),
      omega arith,
      p.0.cell_cuts.long,
      λ k h. omega (arith, p.0.cell_cuts.most k h, p.0.cycle-is),
    )

pub number_row-first-requires-clause-held : goal.number_row-first-requires-clause-held
number_row-first-requires-clause-held c = (c.loop-i.invariant.held, row_told c.requires.ready.0 _ _ _ c.era_mask-dates.ensures c.era_masks.ensures)

pub loop-i-preserved : goal.loop-i-preserved
loop-i-preserved c =
    let p = c.requires in
    let r = p.room.0 in
    let l = c.loop-i in
    let t = c.loop-i-test.true in
    let n = c.number_row-first in
    let e = n.ensures in
    let m : n.result ≤ l.first + length c.args.held.now = omega (arith, e.laid.most, c.era_masks.auto.masks, l.auto.row, p.ready.1) in
    passed-more l.invariant p.ready.0 _ _ n.new.masks n.result t c.era_mask-dates.ensures c.era_masks.ensures e.laid e.counted e.held e.few e.same
    (end-room l.invariant t m r.for-kinds l.auto.kinds n.auto.kinds) (end-room l.invariant t m r.for-lens l.auto.lens n.auto.lens) (omega (arith, length-set c.args.ends.now 0 0))

pub returns-clause-numbered : goal.returns-clause-numbered
returns-clause-numbered c = passed-all c.loop-i.invariant c.requires.ready.0 c.loop-i-test.false
