-- Counts so far are those of the roles so far; where they exceed the room the whole table does too, since it only grows.
use Rattle.std.proofs.Common.{◌≡◌, ◌≤◌, ◌+◌, ◌-◌, ◌/◌, arith, ap, length, length-drop}
use Rattle.rewrite_role.proofs.LocatedLaws.{roles-are}
use Rattle.rewrite_count.specs.declared.scratch.Scratch.{Scratch}
use Rattle.rewrite_count.proofs.KeptLaws.{masks-few}
use Rattle.rewrite_count.proofs.CountLaws.{have-marks, rows-within, entries-stop, counted_stop, counted-all, counting-none, counting-room, counting-next}
use Rattle.rewrite_count.proofs.ScratchLaws.{room-same, room-stays, of-kept, noted-keeps, noted-found, noted-same}
use Rattle.rewrite_count.proofs.count_all.Goals as goal

pub loop-r-init : goal.loop-r-init
loop-r-init c =
    let ρ = c.args.fields.now.roles.now in
    record {
      counting = counting-none _ _ _ _ _ _ _ _ ρ.range.0 (omega (arith, roles-are ρ.bytes.now ρ.layout ρ.located, ρ.range.1)) (of-kept c.args.scratch.now (λ found. ρ.end ≤ ρ.first + length found) c.requires.found);
      same = room-same c.args.scratch.now;
    }

pub derive_at-m-requires-clause-located : goal.derive_at-m-requires-clause-located
derive_at-m-requires-clause-located c =
    let l = c.loop-r in
    let q = room-stays l.invariant.same c.requires.room in
    let p = counting-room l.invariant.counting c.loop-r-test.true c.place-at.ensures c.place-from.ensures q.room q.for-kept in
    (omega (arith, c.args.fields.now.roles.now.range.1), p.in_pairs, p.in-marks)

pub derive_at-m-requires-clause-room : goal.derive_at-m-requires-clause-room
derive_at-m-requires-clause-room c =
    let l = c.loop-r in
    let q = room-stays l.invariant.same c.requires.room in
    (counting-room l.invariant.counting c.loop-r-test.true c.place-at.ensures c.place-from.ensures q.room q.for-kept).room

pub returns-then-room-d-clause-counted : goal.returns-then-room-d-clause-counted
returns-then-room-d-clause-counted c =
    let l = c.loop-r in
    let k = c.derive_at-m in
    entries-stop _ _ _ l.d l.rows l.r l.invariant.counting.counts _ _ k.result c.loop-r-test.true c.requires.room.room.few k.ensures.derived _ c.if-room-d.true

pub marks_from-marks-requires : goal.marks_from-marks-requires
marks_from-marks-requires c =
    let l = c.loop-r in
    let q = room-stays l.invariant.same c.requires.room in
    let p = counting-room l.invariant.counting c.loop-r-test.true c.place-at.ensures c.place-from.ensures q.room q.for-kept in
    omega (arith, p.in-marks, c.derive_at-m.ensures.same.0.marks)

pub count_rows-rows-requires : goal.count_rows-rows-requires
count_rows-rows-requires c =
    let l = c.loop-r in
    let k = c.derive_at-m in
    let q = room-stays l.invariant.same c.requires.room in
    let p = counting-room l.invariant.counting c.loop-r-test.true c.place-at.ensures c.place-from.ensures q.room q.for-kept in
    let z = c.args.fields.now.numbered in
    let from = c.place-from.result in
    rw (c.marks_from-marks.ensures)
    (have-marks z _ q.room.for-sets (omega (arith, p.room.for-marks, length-drop from l.scratch.marks.now, length-drop from k.new.self.marks.now, k.ensures.same.0.marks)), z.stretched.long-ends, z.stretched.rise)

pub overflow_mul-rows : goal.overflow_mul-rows
overflow_mul-rows c =
    let b = c.loop-r.invariant.counting.counts in
    let y = rows-within c.args.fields.now c.derive_at-m.ensures.derived (omega (arith, c.if-room-d.false)) (rw (c.marks_from-marks.ensures) at c.count_rows-rows.ensures) in
    omega (arith, b.few-rows, b.within, b.few-roles, y.few)

pub overflow_add-d-in-loop-r-4 : goal.overflow_add-d-in-loop-r-4
overflow_add-d-in-loop-r-4 c =
    let b = c.loop-r.invariant.counting.counts in
    let k = c.derive_at-m in
    let y = rows-within c.args.fields.now k.ensures.derived (omega (arith, c.if-room-d.false)) (rw (c.marks_from-marks.ensures) at c.count_rows-rows.ensures) in
    omega (arith, b.few, b.few-rows, b.within, b.few-roles, c.requires.room.room.few, k.ensures.derived.few, y.few)

pub returns-then-room-d-2-clause-counted : goal.returns-then-room-d-2-clause-counted
returns-then-room-d-2-clause-counted c =
    let l = c.loop-r in
    let k = c.derive_at-m in
    let h : k.result ≤ c.args.room / 33 = omega (arith, c.if-room-d.false) in
    let y = rows-within c.args.fields.now k.ensures.derived h (rw (c.marks_from-marks.ensures) at c.count_rows-rows.ensures) in
    counted_stop _ _ _ l.d l.rows l.r l.invariant.counting.counts _ k.result _ _ c.loop-r-test.true c.requires.room.room.few (k.ensures.derived.whole h) y _ c.if-room-d-2.true

pub loop-r-preserved : goal.loop-r-preserved
loop-r-preserved c =
    let l = c.loop-r in
    let k = c.derive_at-m in
    let z = c.args.fields.now.numbered in
    let h : k.result ≤ c.args.room / 33 = omega (arith, c.if-room-d.false) in
    let y = rows-within c.args.fields.now k.ensures.derived h (rw (c.marks_from-marks.ensures) at c.count_rows-rows.ensures) in
    let q = counting-next l.invariant.counting c.loop-r-test.true c.place-at.ensures c.place-from.ensures k.result _ _
    (masks-few _ _ _ z.sets-are c.requires.room.room.for-sets) c.requires.room.room.few k.ensures.before.0 k.ensures.before.1 (k.ensures.derived.whole h) y (omega (arith, c.if-room-d-2.false)) in
    let s = l.invariant.same in
    let e = c.note.ensures in
    let i = l.r - c.args.fields.now.roles.now.first in
    record {
      counting =
          rw (
            noted-keeps i k.result s k.ensures.same.0 k.ensures.same.1 e,
            noted-found i k.result s k.ensures.same.0 k.ensures.same.1 e,
            ap (λ (x : Scratch). x.pairs.now) e,
            ap (λ (x : Scratch). x.marks.now) e,
          ) q;
      same = noted-same i k.result s k.ensures.same.0 k.ensures.same.1 e;
    }

pub returns-clause-counted : goal.returns-clause-counted
returns-clause-counted c =
    let l = c.loop-r in
    let a = c.args.fields.now.roles.now in
    let e : l.r ≡ a.end = omega (arith, l.invariant.counting.counts.within, c.loop-r-test.false) in
    counted-all _ _ _ l.d l.rows l.r l.invariant.counting.counts _ e
