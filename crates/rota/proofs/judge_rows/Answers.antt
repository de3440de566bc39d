use Rattle.std.proofs.Common.{sym, ◌∙◌, arith}
use Rattle.ground.proofs.JudgementLaws.{refuse-yes, refuse-none}
use Rattle.refusal.specs.Believed.Numbers.{number}
use Rattle.rota.proofs.RowLaws.{rows-judged}
use Rattle.rota.proofs.judge_rows.Goals as goal

pub returns-then-rows_out : goal.returns-then-rows_out
returns-then-rows_out c =
    let p = c.requires in
    sym (refuse-yes _ _ c.if-rows_out.true)
    ∙ rows-judged _ _ p.0.hours _ _ _ _ (λ i. omega (arith, c.type_inv.s i)) p.0.roles-are _ _ p.1 c.rows_out.ensures

pub returns : goal.returns
returns c =
    let p = c.requires in
    sym (refuse-none (number c.args.rows.refusal) _ c.if-rows_out.false)
    ∙ rows-judged _ _ p.0.hours _ _ _ _ (λ i. omega (arith, c.type_inv.s i)) p.0.roles-are _ _ p.1 c.rows_out.ensures
