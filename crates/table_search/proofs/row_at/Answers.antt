-- No row outside what is left to look at covers the minute.
use Rattle.std.proofs.Common.{arith}
use Rattle.table.proofs.HeaderLaws.{counts-are}
use Rattle.table_search.proofs.StageLaws.{narrow-none, narrow-up, narrow-down, row-here, row-none}
use Rattle.table_search.proofs.row_at.Goals as goal
use Rattle.table_search.proofs.row_at.Goals.{then-guess-rows, else-guess-rows}
use Rattle.table_search.proofs.row_at.Goals.{in-Less, in-Greater}

pub loop-a-init : goal.loop-a-init
loop-a-init c = (
  rw c.rows-rows.ensures (narrow-none _ _ c.args.moment.now.table.opened _ _),
  λ l. elim c.if-guess-rows.branch [ then-guess-rows w ↦ (omega arith, omega (arith, w.if-guess-rows.true, w.m-is)) | else-guess-rows w ↦ (omega arith, omega (arith, w.m-is)) ],
)

pub stage-requires : goal.stage-requires
stage-requires c =
    let i = c.loop-a.invariant in
    omega (arith, i.1 c.loop-a-test.true, i.0.most, (counts-are _ _ c.args.moment.now.table.opened.counts).rows)

pub overflow_add-a : goal.overflow_add-a
overflow_add-a c =
    let i = c.loop-a.invariant in
    omega (arith, i.1 c.loop-a-test.true, i.0.most, (counts-are _ _ c.args.moment.now.table.opened.counts).rows)

pub returns-in-Equal : goal.returns-in-Equal
returns-in-Equal c =
    let i = c.loop-a.invariant in
    row-here _ _ c.args.moment.now.table.opened _ _ _ _ _ i.0 (i.1 c.loop-a-test.true).1 c.in-Equal.ensures

pub loop-a-preserved : goal.loop-a-preserved
loop-a-preserved c =
    let i = c.loop-a.invariant in
    let m = i.1 c.loop-a-test.true in
    let o = c.args.moment.now.table.opened in
    elim c.match-stage.branch [
      | in-Less w ↦ rw (w.b-is, w.m-is) (
        narrow-up _ _ o _ _ _ _ _ i.0 m.1 w.in-Less.ensures _ (omega (arith, w.a-is)),
        λ l. (omega (arith, w.a-is, w.after-m.ensures.0), w.after-m.ensures.1 (omega (arith, w.a-is, l))),
      )
      | in-Greater w ↦ rw (w.a-is, w.b-is, w.m-is) (
        narrow-down _ _ o _ _ _ _ _ i.0 m.1 m.0 w.in-Greater.ensures,
        λ l. (w.before-m.ensures.0, w.before-m.ensures.1 l),
      )
    ]

pub returns : goal.returns
returns c = row-none _ _ c.args.moment.now.table.opened _ _ _ _ c.loop-a.invariant.0 c.loop-a-test.false
