-- Eras so far are counted.
use Rattle.std.proofs.Common.{◌+◌, ◌∙◌, ap, arith, get_or}
use Rattle.rewrite_grid.proofs.StretchLaws.{ends-rise}
use Rattle.rewrite_rows.specs.Parts.{field_marks, runs_in}
use Rattle.rewrite_rows.proofs.FieldLaws.{marks-long, fewer-marks}
use Rattle.rewrite_rows.proofs.CountLaws.{slice-marks, slice-have, counting-start, counting-turn, counting-past, counting-end}
use Rattle.rewrite_rows.proofs.count_rows.Goals as goal

pub loop-e-init : goal.loop-e-init
loop-e-init c = let a = c.args in counting-start a.ne a.ends.now (field_marks a.marks.now a.kinds.now)

pub returns-then-limit-rows : goal.returns-then-limit-rows
returns-then-limit-rows c = counting-past c.requires.2 c.loop-e.invariant _ c.if-limit-rows.true

pub offset_bounds-kinds-ends : goal.offset_bounds-kinds-ends
offset_bounds-kinds-ends c = let a = c.args in let p = c.requires in let l = c.loop-e in
    omega (arith, p.0.long, p.2 l.e c.loop-e-test.true, ends-rise a.ends.now a.ne p.2 (l.e + 1) a.ne (omega (arith, c.loop-e-test.true)) (omega arith))

pub slice_bounds-count_era-end : goal.slice_bounds-count_era-end
slice_bounds-count_era-end c = let a = c.args in let p = c.requires in let l = c.loop-e in
    omega (arith, p.0.long, p.2 l.e c.loop-e-test.true, ends-rise a.ends.now a.ne p.2 (l.e + 1) a.ne (omega (arith, c.loop-e-test.true)) (omega arith))

pub count_era-rows-requires : goal.count_era-rows-requires
count_era-rows-requires c = let a = c.args in let p = c.requires in let l = c.loop-e in
    slice-have a.kinds.now a.marks.now (get_or a.ends.now l.e 0) (get_or a.ends.now (l.e + 1) 0) (p.2 l.e c.loop-e-test.true)
    (fewer-marks _ _ _ _ (ends-rise a.ends.now a.ne p.2 (l.e + 1) a.ne (omega (arith, c.loop-e-test.true)) (omega arith)) p.0)

pub overflow_add-rows : goal.overflow_add-rows
overflow_add-rows c = let a = c.args in let p = c.requires in let l = c.loop-e in
    omega (
      arith,
      c.type_inv.ends (l.e + 1),
      (counting-turn p.2 l.invariant (omega (arith, p.0.long, marks-long a.marks.now a.kinds.now)) c.loop-e-test.true _
          (c.count_era-rows.ensures ∙ ap (runs_in 0) (slice-marks a.marks.now a.kinds.now (get_or a.ends.now l.e 0) (get_or a.ends.now (l.e + 1) 0) (p.2 l.e c.loop-e-test.true)))).few,
    )

pub loop-e-preserved : goal.loop-e-preserved
loop-e-preserved c = let a = c.args in let p = c.requires in let l = c.loop-e in
    counting-turn p.2 l.invariant (omega (arith, p.0.long, marks-long a.marks.now a.kinds.now)) c.loop-e-test.true _
    (c.count_era-rows.ensures ∙ ap (runs_in 0) (slice-marks a.marks.now a.kinds.now (get_or a.ends.now l.e 0) (get_or a.ends.now (l.e + 1) 0) (p.2 l.e c.loop-e-test.true)))

pub returns : goal.returns
returns c = let l = c.loop-e in counting-end c.requires.2 l.invariant _ (omega arith)
