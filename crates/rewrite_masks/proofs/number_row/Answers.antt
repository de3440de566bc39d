use Rattle.rewrite_masks.proofs.RowLaws.{numbering-turn, numbering-laid, numbering-masks}
use native.Mathlib.Omega.{arith}
use Rattle.rewrite_masks.proofs.number_row.Goals as goal

pub loop-c-preserved : goal.loop-c-preserved
loop-c-preserved c =
    let l = c.loop-c in
    let w = l.invariant in
    let r = c.requires.room in
    let t = c.stretch-l in
    let k = c.kind_of in
    numbering-turn w k.new.self t.result k.result c.loop-c-test.true t.ensures.0 t.ensures.2 t.ensures.3 k.ensures.found k.ensures.held k.ensures.same
    (omega (arith, w.place, r.for-kinds, l.auto.kinds)) (omega (arith, w.place, r.for-lens, l.auto.lens))

pub returns-clause-laid : goal.returns-clause-laid
returns-clause-laid c = numbering-laid c.loop-c.invariant c.loop-c-test.false

pub returns-clause-counted : goal.returns-clause-counted
returns-clause-counted c = numbering-masks c.loop-c.invariant c.loop-c-test.false
