use Rattle.std.proofs.Common.{arith}
use Rattle.output.proofs.PutLaws.{put-more}
use Rattle.listing_table.proofs.TextLaws.{table_is}
use Rattle.listing_table.proofs.put_table.Goals as goal

pub returns : goal.returns
returns c =
    let is = table_is c.args.t.now c.read16.ensures c.read32-d.ensures c.read32-n.ensures in
    (rw (← is) (put-more (put-more c.table_line.ensures.0 c.put_roles.ensures.0) c.put_rows.ensures.0), omega arith)
