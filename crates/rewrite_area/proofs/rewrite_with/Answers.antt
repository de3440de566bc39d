use Rattle.std.proofs.Common.{◌∙◌}
use Rattle.rewrite_count.specs.Parts.{table_of}
use Rattle.rewrite_area.proofs.AnswerLaws.{told}
use Rattle.rewrite_area.proofs.rewrite_with.Goals as goal

pub returns : goal.returns
returns g c =
    let k = c.place_table-k in
    (c.answer.ensures ∙ told (table_of c.args.roles.now) c.args.room k.result k.ensures.placed.0, k.ensures.placed.1)
