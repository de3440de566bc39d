-- Too long an input is 9; else the rewriting decides, and its table is read back from the area.
use Rattle.std.proofs.Common.{arith, refl, sym, ap, ◌∙◌, rules}
use Rattle.rewrite_area.specs.Answers.{written_given}
use Rattle.listing_print.proofs.ListingLaws.{put-text, long-line, refused-text, table_fits, table-text}
use Rattle.listing_print.proofs.print.Goals as goal
use Rattle.listing_print.proofs.print.Goals.{in-Ok, in-Err}

pub returns-then-s-gt8192 : goal.returns-then-s-gt8192
returns-then-s-gt8192 c =
    let p = rw (c.from.ensures, long-line c.args.s.now c.if-s-gt8192.true) at c.refused_line.ensures.0 in
    put-text _ p refl (search rules) (omega arith)

pub put_table-requires : goal.put_table-requires
put_table-requires c =
    table_fits c.args.s.now _ _ _ refl (ap written_given (sym c.in-Ok.is) ∙ c.rewrite.ensures.0) c.rewrite.ensures.1 _ refl (omega arith)

pub returns : goal.returns
returns c =
    let s = c.args.s.now in
    elim c.match-rewrite.branch [
      | in-Ok w ↦
          let e = ap written_given (sym w.in-Ok.is) ∙ c.rewrite.ensures.0 in
          let p = rw (table-text s _ _ _ refl e c.rewrite.ensures.1 c.if-s-gt8192.false) at w.put_table.ensures.0 in
          rw w.out-is (put-text _ p refl refl (omega arith))
      | in-Err w ↦
          let e = ap written_given (sym w.in-Err.is) ∙ c.rewrite.ensures.0 in
          let p = rw (w.from-in-Err.ensures, refused-text s _ _ c.if-s-gt8192.false refl e) at w.refused_line-in-Err.ensures.0 in
          rw w.out-is (put-text _ p refl refl (omega arith))
    ]
