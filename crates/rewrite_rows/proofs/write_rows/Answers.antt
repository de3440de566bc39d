-- What is left of the role's rows, written from here, is the whole.
use Rattle.std.proofs.Common.{arith, ◌+◌}
use Rattle.rewrite_grid.proofs.StretchLaws.{ends-rise}
use Rattle.rewrite_rows.proofs.EraLaws.{role-begun, role-written, era-marks, era-stretched, era-room, era-written}
use Rattle.rewrite_rows.proofs.write_rows.Goals as goal

pub loop-e-init : goal.loop-e-init
loop-e-init c = let a = c.args in role-begun a.base a.ne a.nc a.eras.now a.cells.now a.kinds.now a.lens.now a.ends.now a.marks.now c.requires.have_marks.2.long a.at a.out.now

pub offset_bounds-kinds-first : goal.offset_bounds-kinds-first
offset_bounds-kinds-first c = let a = c.args in let s = c.requires.have_marks.1 in let l = c.loop-e in
    omega (arith, s.long-kinds, s.rise l.e c.loop-e-test.true, ends-rise a.ends.now a.ne s.rise (l.e + 1) a.ne (omega (arith, c.loop-e-test.true)) (omega arith))

pub slice_bounds-write_era-end : goal.slice_bounds-write_era-end
slice_bounds-write_era-end c = let a = c.args in let s = c.requires.have_marks.1 in let l = c.loop-e in
    omega (arith, s.long-kinds, s.rise l.e c.loop-e-test.true, ends-rise a.ends.now a.ne s.rise (l.e + 1) a.ne (omega (arith, c.loop-e-test.true)) (omega arith))

pub slice_bounds-write_era-end-in-loop-e : goal.slice_bounds-write_era-end-in-loop-e
slice_bounds-write_era-end-in-loop-e c = let a = c.args in let s = c.requires.have_marks.1 in let l = c.loop-e in
    omega (arith, s.long-lens, s.rise l.e c.loop-e-test.true, ends-rise a.ends.now a.ne s.rise (l.e + 1) a.ne (omega (arith, c.loop-e-test.true)) (omega arith))

pub write_era-p-requires : goal.write_era-p-requires
write_era-p-requires c = let p = c.requires in let w = c.loop-e.invariant in let h = c.loop-e-test.true in record { room = (era-room p.have_marks.2 w p.have_marks.1 h p.have_marks.3.long p.ne_in_bounds.0, p.ne_in_bounds.1); have_marks = (era-marks p.have_marks.2 w p.have_marks.1 h p.have_marks.0, era-stretched p.have_marks.2 w p.have_marks.1 h, p.have_marks.3) }

pub loop-e-preserved : goal.loop-e-preserved
loop-e-preserved c = let p = c.requires in era-written p.have_marks.2 c.loop-e.invariant p.have_marks.1 c.loop-e-test.true p.have_marks.3.long _ _ c.write_era-p.ensures.0 c.write_era-p.ensures.1

pub shape_of-out : goal.shape_of-out
shape_of-out c = c.loop-e.invariant.left.long

pub returns : goal.returns
returns c = let w = c.loop-e.invariant in role-written c.requires.have_marks.2 w (omega (arith, w.up_to))
