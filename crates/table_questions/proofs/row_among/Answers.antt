-- Of the rows before what is left only the last may cover the minute, and none of those after does.
use native.Mathlib.Omega.{arith}
use Rattle.table_questions.proofs.StartLaws.{begins-most}
use Rattle.table_questions.proofs.AmongLaws.{left_up, left_down, among_none, among-last, among-gone}
use Rattle.table_questions.proofs.row_among.Goals as goal

pub begun-requires : goal.begun-requires
begun-requires c = omega (arith, c.loop-a.invariant.to, c.loop-a-test.true, begins-most _ _ c.args.moment.now.table.opened _ _ c.requires.1)

pub loop-a-preserved-then-begun : goal.loop-a-preserved-then-begun
loop-a-preserved-then-begun c =
    let q = c.requires in
    left_up _ _ c.args.moment.now.table.opened _ _ _ _ q.0 q.1 _ _ _ c.loop-a.invariant (omega arith)
    (omega (arith, c.loop-a-test.true)) _ _ c.args.moment.now.in_cycle c.begun.ensures c.if-begun.true _ (omega arith)

pub loop-a-preserved : goal.loop-a-preserved
loop-a-preserved c =
    let q = c.requires in
    left_down _ _ c.args.moment.now.table.opened _ _ _ _ q.0 q.1 _ _ _ c.loop-a.invariant (omega arith)
    (omega (arith, c.loop-a-test.true)) _ _ c.args.moment.now.in_cycle c.begun.ensures c.if-begun.false

pub returns-then-a-first : goal.returns-then-a-first
returns-then-a-first c =
    let q = c.requires in
    among_none _ _ c.args.moment.now.table.opened _ _ _ _ q.0 q.1 _ _ c.loop-a.invariant c.loop-a-test.false (omega (arith, c.if-a-first.true))

pub row_covers-covered-requires : goal.row_covers-covered-requires
row_covers-covered-requires c =
    let i = c.loop-a.invariant in
    omega (arith, i.ordered, i.to, c.if-a-first.false, begins-most _ _ c.args.moment.now.table.opened _ _ c.requires.1)

pub returns-then-covered : goal.returns-then-covered
returns-then-covered c =
    let q = c.requires in
    among-last _ _ c.args.moment.now.table.opened _ _ _ _ q.0 q.1 _ _ c.loop-a.invariant c.loop-a-test.false
    (omega (arith, c.if-a-first.false)) _ (omega (arith, c.if-a-first.false)) _ c.row_covers-covered.ensures c.if-covered.true

pub returns-else-covered : goal.returns-else-covered
returns-else-covered c =
    let q = c.requires in
    among-gone _ _ c.args.moment.now.table.opened _ _ _ _ q.0 q.1 _ _ c.loop-a.invariant c.loop-a-test.false
    (omega (arith, c.if-a-first.false)) _ (omega (arith, c.if-a-first.false)) _ c.row_covers-covered.ensures c.if-covered.false
