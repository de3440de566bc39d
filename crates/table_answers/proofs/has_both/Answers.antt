use Rattle.std.proofs.Common.{arith, ◌∙◌}
use Rattle.table_answers.proofs.GrantLaws.{both-no, both_by}
use Rattle.table_answers.proofs.has_both.Goals as goal

pub returns-then-contains : goal.returns-then-contains
returns-then-contains c =
    both_by _ _ _ _ _ _ _ (omega (arith, c.read32.ensures)) c.read64.ensures c.contains.ensures
    c.if-contains.true _ _ c.read64-then-contains.ensures c.contains-then-contains.ensures

pub returns-else-contains : goal.returns-else-contains
returns-else-contains c =
    c.if-contains.false
    ∙ both-no _ _ _ _ _ _ _ (omega (arith, c.read32.ensures)) c.read64.ensures c.contains.ensures
    c.if-contains.false
