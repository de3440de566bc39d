use Rattle.std.proofs.Common.{arith}
use Rattle.listing_lines.proofs.PutLaws.{put-with}
use Rattle.listing_lines.specs.Believed.Lines.{ascii, decimal, refused_line}
use Rattle.listing_lines.proofs.refused_line.Goals as goal

pub returns : goal.returns
unfolding ascii refused_line
returns c =
    let a = c.args in
    (put-with (decimal a.n) (ascii "\n") c.put.ensures c.put_number.ensures.0, omega arith)
