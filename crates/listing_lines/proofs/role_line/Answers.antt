use Rattle.std.proofs.Common.{arith}
use Rattle.listing_lines.proofs.PutLaws.{put-with}
use Rattle.listing_lines.specs.Believed.Lines.{ascii, decimal, hex16, role_line}
use Rattle.listing_lines.proofs.role_line.Goals as goal

pub returns : goal.returns
unfolding ascii role_line
returns c =
    let a = c.args in
    let to_one = put-with (decimal a.number) (ascii " ") c.put.ensures c.put_number.ensures.0 in
    let to-two = put-with (decimal a.source) (ascii " ") to_one c.put_number-2.ensures.0 in
    let to-three = put-with (hex16 a.users) (ascii " ") to-two c.put_set.ensures.0 in
    (put-with (hex16 a.permissions) (ascii "\n") to-three c.put_set-2.ensures.0, omega arith)
