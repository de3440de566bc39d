use Rattle.std.proofs.Common.{arith}
use Rattle.table.specs.Believed.TableBytes.{row_of}
use Rattle.table.proofs.HeaderLaws.{counts-are}
use Rattle.table_answers.proofs.AnswerLaws.{row_inside}
use Rattle.table_answers.proofs.row_has_both.Goals as goal

pub has_both-requires : goal.has_both-requires
has_both-requires c =
    let o = c.args.table.now.opened in
    (rw (c.row_place.ensures.place, ← (counts-are _ _ o.counts).derived) (row_inside _ _ o _ c.requires.0), omega arith, omega arith)

pub returns : goal.returns
unfolding row_of
returns c = rw c.row_place.ensures.place at c.has_both.ensures
