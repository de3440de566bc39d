-- Rows so far, and those that begin in the stretches that are left, are all.
use Rattle.std.proofs.Common.{arith, sym}
use Rattle.rewrite_rows.specs.Parts.{field_marks}
use Rattle.rewrite_rows.proofs.FieldLaws.{mark-is, marks-long}
use Rattle.rewrite_rows.proofs.CountLaws.{count-start, count_turn, count-end}
use Rattle.rewrite_rows.proofs.count_era.Goals as goal

pub loop-kind-init : goal.loop-kind-init
loop-kind-init c = count-start (field_marks c.args.marks.now c.args.kinds.now)

pub loop-kind-preserved : goal.loop-kind-preserved
loop-kind-preserved c = let a = c.args in let l = c.loop-kind in
    count_turn l.invariant (omega (arith, marks-long a.marks.now a.kinds.now)) _ _ (sym (mark-is a.marks.now a.kinds.now l.kind-index (omega arith))) c.starts-rows.ensures

pub returns : goal.returns
returns c = count-end c.loop-kind.invariant (omega (arith, marks-long c.args.marks.now c.args.kinds.now))
