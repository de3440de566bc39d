use Rattle.std.proofs.Common.{◌∙◌, ap, refl, sym, arith}
use Rattle.std.proofs.lemmas.Result.{err_from_is_err_and}
use Rattle.ground.specs.Believed.Outcome.{given}
use Rattle.policy.proofs.NextUseLaws.{bytes-refused, numbers-refused, next-given}
use Rattle.policy.proofs.QuestionOutcome.{minute-early, numbers-below}
use Rattle.refusal.proofs.RefusalLaws.{number-some}
use Rattle.table.specs.Believed.Table.{policy_of}
use Rattle.table.specs.Believed.TableBytes.{table_of}
use Rattle.table_reader.proofs.ReadLaws.{arguments-as}
use Rattle.table_next.proofs.PassLaws.{next-is}
use Rattle.table_next.proofs.next_use.Goals as goal

pub returns-in_err-table : goal.returns-in_err-table
returns-in_err-table c =
    let p = err_from_is_err_and c.from_residual.result c.from_residual.ensures.1 in
    let j = c.in_err-table.ensures.judged in
    rw (p.1, p.2) (bytes-refused _ (policy_of (table_of c.args.s.now)) _ _ _ _ (sym j) (λ z. number-some _ (j ∙ z)))

pub returns-in_err-judge_arguments : goal.returns-in_err-judge_arguments
returns-in_err-judge_arguments c =
    let p = err_from_is_err_and c.from_residual-in_err-judge_arguments.result c.from_residual-in_err-judge_arguments.ensures.1 in
    let o = c.in_ok-table.table.opened in
    rw (p.1, p.2, ← c.in_ok-table.ensures.lent)
    (numbers-refused _ (policy_of (table_of _)) _ _ _ _ o.clear (arguments-as _ _ o _ _ _ c.in_err-judge_arguments.ensures) (number-some _))

pub first_use-requires : goal.first_use-requires
first_use-requires c =
    let o = c.in_ok-table.table.opened in
    let i = numbers-below _ _ _ _ _ _ c.in_ok-judge_arguments.ensures refl in
    let h = minute-early 0 (policy_of (table_of _)) _ _ _ _ (arguments-as _ _ o _ _ _ c.in_ok-judge_arguments.ensures) refl in
    (i.0, i.1, omega (arith, h))

pub returns : goal.returns
returns c =
    let o = c.in_ok-table.table.opened in
    rw (← c.in_ok-table.ensures.lent)
    (ap given (c.first_use.ensures ∙ next-is _ _ o _ _ _)
    ∙ next-given _ (policy_of (table_of _)) _ _ _ _ o.clear (arguments-as _ _ o _ _ _ c.in_ok-judge_arguments.ensures) refl)
