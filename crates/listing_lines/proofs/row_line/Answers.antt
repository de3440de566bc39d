use Rattle.std.proofs.Common.{arith}
use Rattle.listing_lines.proofs.PutLaws.{put-with}
use Rattle.listing_lines.specs.Believed.Lines.{ascii, decimal, row_line}
use Rattle.listing_lines.proofs.row_line.Goals as goal

pub returns : goal.returns
unfolding ascii row_line
returns c =
    let a = c.args in
    let to_one = put-with (decimal a.derived) (ascii " ") c.put.ensures c.put_number.ensures.0 in
    let to-two = put-with (decimal a.begin) (ascii " ") to_one c.put_number-2.ensures.0 in
    let to-three = put-with (decimal a.end) (ascii " ") to-two c.put_number-3.ensures.0 in
    let to-four = put-with (decimal a.offset) (ascii " ") to-three c.put_number-4.ensures.0 in
    (put-with (decimal a.span) (ascii "\n") to-four c.put_number-5.ensures.0, omega arith)
