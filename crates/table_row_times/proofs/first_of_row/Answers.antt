use Rattle.std.proofs.Common.{◌∙◌, arith}
use Rattle.table.proofs.HeaderLaws.{counts-are}
use Rattle.table_row_times.proofs.SpanLaws.{row-ready}
use Rattle.table_row_times.proofs.RowLaws.{row-there}
use Rattle.table_row_times.proofs.first_of_row.Goals as goal

pub row_first-requires : goal.row_first-requires
row_first-requires c =
    let o = c.args.table.now.opened in
    let f = counts-are _ _ o.counts in
    (rw (c.row_place.ensures.place, ← f.derived) (row-ready _ _ o _ c.requires.0), f.cycle, omega arith, omega arith, omega arith, omega arith)

pub returns : goal.returns
returns c = rw c.row_place.ensures.place at c.row_first.ensures ∙ row-there _ _ _ _ _ _
