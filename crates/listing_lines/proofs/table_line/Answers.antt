use Rattle.std.proofs.Common.{arith}
use Rattle.listing_lines.proofs.PutLaws.{put-with}
use Rattle.listing_lines.specs.Believed.Lines.{ascii, decimal, table_line}
use Rattle.listing_lines.proofs.table_line.Goals as goal

pub returns : goal.returns
unfolding ascii table_line
returns c =
    let a = c.args in
    let to_one = put-with (decimal a.cycle) (ascii " ") c.put.ensures c.put_number.ensures.0 in
    let to-two = put-with (decimal a.roles) (ascii " ") to_one c.put_number-2.ensures.0 in
    (put-with (decimal a.rows) (ascii "\n") to-two c.put_number-3.ensures.0, omega arith)
