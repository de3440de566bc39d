-- A run of cells with one mark goes on over a stretch, or ends before it.
use native.Mathlib.Omega.{arith}
use Rattle.std.proofs.Common.{sym, ◌∙◌}
use Rattle.rewrite_rows.proofs.FieldLaws.{mark-is, last-room, last-from, last_written}
use Rattle.rewrite_rows.proofs.EraLaws.{era-begun, stretch-within, stretch-kept, stretch-room, stretch-written, era-full}
use Rattle.rewrite_rows.proofs.write_era.Goals as goal
use Rattle.rewrite_rows.proofs.write_era.Goals.{then-m-run, else-m-run}

pub loop-j-init : goal.loop-j-init
loop-j-init c = let a = c.args in let p = c.requires in era-begun a.base a.begin a.end a.nc a.cells.now a.kinds.now a.lens.now a.marks.now p.have_marks.1 p.have_marks.2 a.at a.out.now

pub bounds-marks-kind : goal.bounds-marks-kind
bounds-marks-kind c = c.requires.have_marks.0.below c.loop-j.j c.loop-j-test.true

pub write_marked-p-requires : goal.write_marked-p-requires
write_marked-p-requires c = let p = c.requires in let l = c.loop-j in (
  stretch-room p.have_marks.0 p.have_marks.1 p.have_marks.2 l.invariant c.loop-j-test.true (λ z. c.if-m-run.true (sym (mark-is c.args.marks.now c.args.kinds.now l.j (omega (arith, p.have_marks.0.long))) ∙ z)) p.room.0,
  p.room.1,
  l.invariant.run.from,
  p.have_marks.2.most l.c l.invariant.run.up_to,
)

pub overflow_add-c : goal.overflow_add-c
overflow_add-c c = let p = c.requires in omega (arith, stretch-within p.have_marks.0 p.have_marks.1 p.have_marks.2 c.loop-j.invariant c.loop-j-test.true, p.have_marks.2.long)

pub loop-j-preserved : goal.loop-j-preserved
loop-j-preserved c = let p = c.requires in let l = c.loop-j in let h = c.loop-j-test.true in let m = mark-is c.args.marks.now c.args.kinds.now l.j (omega (arith, p.have_marks.0.long)) in
    elim c.if-m-run.branch [
      | then-m-run w ↦ stretch-written p.have_marks.0 p.have_marks.1 p.have_marks.2 l.invariant h (λ z. w.if-m-run.true (sym m ∙ z)) _ _ _ _ (w.out-is ∙ w.write_marked-p.ensures.0) (w.p-is ∙ w.write_marked-p.ensures.1) (w.run-is ∙ sym m) w.low-is
      | else-m-run w ↦ stretch-kept p.have_marks.0 p.have_marks.1 p.have_marks.2 l.invariant h (m ∙ w.if-m-run.false) _ _ _ _ w.out-is w.p-is w.run-is w.low-is
    ]

pub write_marked-requires : goal.write_marked-requires
write_marked-requires c = let a = c.args in let p = c.requires in let l = c.loop-j in let e = era-full p.have_marks.0 p.have_marks.1 p.have_marks.2 l.invariant (omega (arith, l.invariant.up_to)) in (
  last-room p.have_marks.2 l.invariant.run e p.room.0,
  p.room.1,
  last-from p.have_marks.2 l.invariant.run e,
  p.have_marks.2.most a.nc (omega arith),
)

pub shape_of-out : goal.shape_of-out
shape_of-out c = c.write_marked.auto.out ∙ c.loop-j.invariant.run.left.long

pub returns : goal.returns
returns c = let p = c.requires in let l = c.loop-j in
    last_written p.have_marks.2 l.invariant.run (era-full p.have_marks.0 p.have_marks.1 p.have_marks.2 l.invariant (omega (arith, l.invariant.up_to))) _ _ c.write_marked.ensures.0 c.write_marked.ensures.1
