-- The text so far is that of the rows so far.
use Rattle.std.proofs.Common.{arith, ◌≡◌, ◌+◌, ◌*◌}
use Rattle.output.proofs.PutLaws.{put_none, put-more}
use Rattle.listing_table.proofs.TextLaws.{rows_none, rows_more}
use Rattle.listing_table.proofs.put_rows.Goals as goal

pub loop-i-init : goal.loop-i-init
loop-i-init c = record { text = rw (← (rows_none c.args.t.now)) (put_none c.args.out.now); short = omega arith }

pub loop-i-preserved : goal.loop-i-preserved
loop-i-preserved c =
    let l = c.loop-i in
    record {
      text = rw (← (rows_more c.args.t.now l.i (16 + 17 * c.args.d + 16 * l.i) (omega arith))) (put-more l.invariant.text c.put_row.ensures.0);
      short = omega arith;
    }

pub returns : goal.returns
returns c =
    let l = c.loop-i in
    let all : l.i ≡ c.args.n = omega arith in
    rw (← all) (l.invariant.text, l.invariant.short)
