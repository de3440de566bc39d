-- By whether some row has a number out of range.
use Rattle.std.proofs.Common.{sym, ◌∙◌, arith}
use Rattle.ground.proofs.JudgementLaws.{refuse-yes, refuse-none}
use Rattle.rota.proofs.RowLaws.{rows-ordered}
use Rattle.rota.proofs.judge_ordered.Goals as goal

pub returns-then-any_falls : goal.returns-then-any_falls
returns-then-any_falls c =
    let p = c.requires in
    sym (refuse-yes 52 _ c.if-any_falls.true)
    ∙ rows-ordered _ _ p.0.hours _ _ _ _ (λ i. omega (arith, c.type_inv.s i)) p.0.roles-are p.1 _ _ (sym c.rows_out.ensures ∙ c.if-rows_out.false) c.any_falls.ensures

pub returns : goal.returns
returns c =
    let p = c.requires in
    sym (refuse-none 52 _ c.if-any_falls.false)
    ∙ rows-ordered _ _ p.0.hours _ _ _ _ (λ i. omega (arith, c.type_inv.s i)) p.0.roles-are p.1 _ _ (sym c.rows_out.ensures ∙ c.if-rows_out.false) c.any_falls.ensures
