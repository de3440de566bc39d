-- The five fields stand at their places in the row's bytes.
use Rattle.std.proofs.Common.{arith}
use Rattle.listing_table.proofs.TextLaws.{row_is}
use Rattle.listing_table.proofs.put_row.Goals as goal

pub returns : goal.returns
returns c =
    let a = c.args in
    let is = row_is a.t.now a.p c.read32.ensures c.read32-2.ensures c.read32-3.ensures c.read16.ensures c.read16-2.ensures in
    (rw (← is) c.row_line.ensures.0, omega arith)
