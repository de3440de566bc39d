use Rattle.std.proofs.Common.{arith}
use Rattle.table.proofs.HeaderLaws.{counts-are}
use Rattle.table_questions.proofs.StartLaws.{begins-end}
use Rattle.table_questions.proofs.AskedLaws.{roles-few}
use Rattle.table_questions.proofs.row_by.Goals as goal
use Rattle.table_questions.proofs.row_by.Goals.{then-next-moment, else-next-moment}

pub offset_bounds-starts-role : goal.offset_bounds-starts-role
offset_bounds-starts-role c = omega (arith, c.requires.1, roles-few _ _ c.args.moment.now.table.opened)

pub bounds-starts-role : goal.bounds-starts-role
bounds-starts-role c = omega (arith, c.requires.1, roles-few _ _ c.args.moment.now.table.opened)

pub overflow_add-next : goal.overflow_add-next
overflow_add-next c = omega (arith, c.requires.1, roles-few _ _ c.args.moment.now.table.opened)

pub bounds-starts-next : goal.bounds-starts-next
bounds-starts-next c = omega (arith, c.if-next-moment.true, roles-few _ _ c.args.moment.now.table.opened)

pub row_among-requires : goal.row_among-requires
row_among-requires c =
    let q = c.requires in
    let o = c.args.moment.now.table.opened in
    let e = counts-are _ _ o.counts in (
      q.0.begins _ (omega (arith, e.roles, q.1)),
      elim c.if-next-moment.branch [
        | then-next-moment w ↦ rw w.past-is (q.0.begins _ (omega (arith, e.roles, w.if-next-moment.true)))
        | else-next-moment w ↦ rw (w.past-is, w.rows-past.ensures) (begins-end _ _ o _ (omega (arith, w.if-next-moment.false)))
      ],
    )
