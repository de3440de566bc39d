-- The role has a row at the minute, or none.
use Rattle.std.proofs.Common.{◌∙◌, sym}
use Rattle.table_holding.proofs.HeldLaws.{held_same, no_row, row-below}
use Rattle.table_holding.proofs.pass_role.Goals as goal

pub with_row-q-requires : goal.with_row-q-requires
with_row-q-requires c =
    let q = c.requires in
    let e = sym c.in-Some.is ∙ c.row_at-f.ensures in
    (e, row-below _ _ c.args.moment.now.table.opened _ _ _ e, q.1, q.2)

pub returns-in-None : goal.returns-in-None
returns-in-None c =
    let a = c.args.moment.now.table.opened.clear in
    held_same _ a _ _ _ _ _ _ c.requires.2 (λ u i m h e g. absurd (no_row _ a _ _ u i e g (sym c.in-None.is ∙ c.row_at-f.ensures)))
