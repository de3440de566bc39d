-- Each slot has the numbers of the role's rows so far with those hours.
use Rattle.rota.specs.Believed.RotaBytes.{row_at}
use Rattle.rewrite_role.proofs.SlotLaws.{slot_at, slots-none, slots-in, slots-out}
use Rattle.rewrite_role.proofs.by_slot.Goals as goal
use Rattle.rewrite_role.proofs.by_slot.Goals.{then-s-p, else-s-p}

pub loop-i-init : goal.loop-i-init
loop-i-init c = slots-none _ _

pub bounds-sets-k : goal.bounds-sets-k
bounds-sets-k c = let a = c.args in (slot_at a.s.now a.at a.n c.requires c.loop-i.i c.loop-i-test.true _ _ c.decode.ensures c.slot-k.ensures).1

pub bounds-sets-k-then-s-p : goal.bounds-sets-k-then-s-p
bounds-sets-k-then-s-p c = let a = c.args in (slot_at a.s.now a.at a.n c.requires c.loop-i.i c.loop-i-test.true _ _ c.decode.ensures c.slot-k.ensures).1

pub loop-i-preserved : goal.loop-i-preserved
loop-i-preserved c = let a = c.args in let l = c.loop-i in let f = row_at a.s.now a.at in
    elim c.if-s-p.branch [
      | then-s-p w ↦
          let h = slot_at a.s.now a.at a.n c.requires l.i c.loop-i-test.true _ _ w.decode.ensures w.slot-k.ensures in
          slots-in f l.i a.role l.sets l.invariant _ _ _ w.if-s-p.true h.0 h.1 w.with.ensures w.sets-is
      | else-s-p w ↦ slots-out f l.i a.role l.sets l.invariant _ w.if-s-p.false w.sets-is
    ]
