-- What is left to write of entries and rows, written from here, is the whole: a role's entries and rows come off the front of each.
use Rattle.std.proofs.Common.{◌≡◌, ℕ, ◌-◌, List, [], arith, ap, refl, ◌∙◌, get_or, length, length-drop}
use Rattle.std.specs.Prelude.{Option, is_some, unwrap_or}
use Rattle.minutes.specs.Believed.Minutes.{E}
use Rattle.rewrite_role.proofs.LocatedLaws.{roles-are, cycle-fits}
use Rattle.rewrite_count.proofs.CountLaws.{have-marks, role-rows-are}
use Rattle.rewrite_count.proofs.ScratchLaws.{of-kept, room-same, same-on}
use Rattle.rewrite_count.specs.Parts.{Kept}
use Rattle.rewrite_fill.proofs.FillLaws.{filling-turn, filling-end, entries-room, rows-room, cuts-to, size_room, held_start, role-room, held_next}
use Rattle.rewrite_fill.proofs.write_all.Goals as goal

pub overflow_mul-p : goal.overflow_mul-p
overflow_mul-p c = let p = c.requires.total_value in omega (arith, size_room _ _ _ p.0 p.1, c.well_formed)

pub overflow_add-p : goal.overflow_add-p
overflow_add-p c = let p = c.requires.total_value in omega (arith, size_room _ _ _ p.0 p.1, c.well_formed)

pub loop-r-init : goal.loop-r-init
loop-r-init c =
    let ρ = c.args.fields.now.roles.now in
    let s = c.args.scratch.now in
    let n = c.args.fields.now.mask_count in
    record {
      held = held_start _ _ _ _ _ _ _ _ _ _ ρ.range.0 (omega (arith, roles-are ρ.bytes.now ρ.layout ρ.located, ρ.range.1)) c.requires.total_value.0
          (of-kept s (λ found. Kept ρ.bytes.now ρ.first (ρ.end - ρ.first) n found s.pairs.now s.marks.now) c.requires.kept);
      same = room-same s;
      same-kept = refl;
    }

pub role_at-m-requires-clause-located : goal.role_at-m-requires-clause-located
role_at-m-requires-clause-located c =
    let ρ = c.args.fields.now.roles.now in
    let l = c.loop-r in
    let q = role-room c.requires.room l.invariant.same l.invariant.held c.loop-r-test.true c.place-at.ensures c.place-from.ensures in
    (omega (arith, ρ.range.1), omega (arith, l.invariant.held.filling.few-roles), q.in_pairs, q.in-marks)

pub role_at-m-requires-clause-room : goal.role_at-m-requires-clause-room
role_at-m-requires-clause-room c =
    let l = c.loop-r in
    (role-room c.requires.room l.invariant.same l.invariant.held c.loop-r-test.true c.place-at.ensures c.place-from.ensures).room

pub pairs_from-requires : goal.pairs_from-requires
pairs_from-requires c =
    let l = c.loop-r in
    let q = role-room c.requires.room l.invariant.same l.invariant.held c.loop-r-test.true c.place-at.ensures c.place-from.ensures in
    omega (arith, q.in_pairs, c.role_at-m.ensures.same.0.pairs)

pub write_entries-requires : goal.write_entries-requires
write_entries-requires c =
    let p = c.requires in
    let l = c.loop-r in
    let k = c.role_at-m in
    let q = role-room p.room l.invariant.same l.invariant.held c.loop-r-test.true c.place-at.ensures c.place-from.ensures in
    let z = size_room _ _ _ p.total_value.0 p.total_value.1 in
    let at = c.place-at.result in (
      entries-room _ _ _ _ _ l.out l.d l.p l.r l.invariant.held.filling _ _ _ k.result c.loop-r-test.true p.room.room.few k.ensures.derived (omega arith),
      rw (c.pairs_from.ensures) (omega (arith, k.ensures.derived.few, q.room.for-pairs, length-drop at l.scratch.pairs.now, length-drop at k.new.scratch.pairs.now, k.ensures.same.0.pairs)),
    )

pub marks_from-requires : goal.marks_from-requires
marks_from-requires c =
    let l = c.loop-r in
    let q = role-room c.requires.room l.invariant.same l.invariant.held c.loop-r-test.true c.place-at.ensures c.place-from.ensures in
    omega (arith, q.in-marks, c.role_at-m.ensures.same.0.marks)

pub write_rows-p-requires-clause-ne_in_bounds : goal.write_rows-p-requires-clause-ne_in_bounds
write_rows-p-requires-clause-ne_in_bounds c =
    let f = c.args.fields.now in
    let p = c.requires in
    let l = c.loop-r in
    let k = c.role_at-m in
    let w = l.invariant.held.filling in
    let z = size_room _ _ _ p.total_value.0 p.total_value.1 in
    let e = role-rows-are f.roles.now.divided f.numbered k.ensures.derived l.d in
    let y = rows-room _ _ _ _ _ l.out l.d l.p l.r w _ _ _ k.result c.loop-r-test.true p.room.room.few k.ensures.derived z in
    rw (c.marks_from.ensures) (omega (arith, ap length e, y, c.write_entries.auto.out), omega (arith, w.few, w.within, w.few-roles))

pub write_rows-p-requires-clause-have_marks : goal.write_rows-p-requires-clause-have_marks
write_rows-p-requires-clause-have_marks c =
    let f = c.args.fields.now in
    let ρ = f.roles.now in
    let l = c.loop-r in
    let k = c.role_at-m in
    let q = role-room c.requires.room l.invariant.same l.invariant.held c.loop-r-test.true c.place-at.ensures c.place-from.ensures in
    let from = c.place-from.result in
    rw (c.marks_from.ensures) (
      have-marks f.numbered _ c.requires.room.room.for-sets (omega (arith, q.room.for-marks, length-drop from l.scratch.marks.now, length-drop from k.new.scratch.marks.now, k.ensures.same.0.marks)),
      f.numbered.stretched,
      cuts-to E (omega arith) ρ.divided.era-cuts,
      cuts-to 65535 (cycle-fits ρ.bytes.now ρ.layout ρ.located) ρ.divided.cell_cuts,
    )

pub loop-r-preserved : goal.loop-r-preserved
loop-r-preserved c =
    let f = c.args.fields.now in
    let l = c.loop-r in
    let t = l.scratch in
    let k = c.role_at-m in
    let g = filling-turn _ _ _ _ _ l.out l.d l.p l.r l.invariant.held.filling _ _ _ k.result c.loop-r-test.true c.requires.room.room.few k.ensures.derived
    _ _ _ _ (role-rows-are f.roles.now.divided f.numbered k.ensures.derived l.d)
    (rw (c.pairs_from.ensures) at c.write_entries.ensures)
    (rw (c.marks_from.ensures) at c.write_rows-p.ensures.0)
    (rw (c.marks_from.ensures) at c.write_rows-p.ensures.1) in
    let same = of-kept t (λ found. (k.result ≡ get_or found (l.r - f.roles.now.first) 0) × (k.new.scratch.pairs.now ≡ t.pairs.now) × (k.new.scratch.marks.now ≡ t.marks.now)) k.ensures.kept in
    record {
      held = rw (ap is_some k.ensures.same.1, ap (λ (o : Option (List ℕ)). unwrap_or o []) k.ensures.same.1) (held_next l.invariant.held g same);
      same = same-on l.invariant.same k.ensures.same.0;
      same-kept = k.ensures.same.1 ∙ l.invariant.same-kept;
    }

pub returns-clause-written : goal.returns-clause-written
returns-clause-written c =
    let l = c.loop-r in
    let w = l.invariant.held.filling in
    filling-end _ _ _ _ _ l.out l.d l.p l.r w (omega (arith, w.within, c.loop-r-test.false))

pub returns-clause-same : goal.returns-clause-same
returns-clause-same c = let i = c.loop-r.invariant in (i.same, i.same-kept)
