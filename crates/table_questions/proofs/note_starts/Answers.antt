use mathlib.Core.Path.{◌∙◌}
use Rattle.ground.proofs.BoolLaws.{clash}
use Rattle.table_questions.proofs.note_starts.Goals as goal

pub returns-then-few_rows : goal.returns-then-few_rows
returns-then-few_rows c = λ no. absurd (clash _ c.if-few_rows.true (c.few_rows.ensures ∙ no))

pub returns : goal.returns
returns c = λ no. c.first_rows.ensures
