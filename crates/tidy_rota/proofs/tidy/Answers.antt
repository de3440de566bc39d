-- The rota's refusal, then 20, then the tidy rota.
use Rattle.std.proofs.Common.{arith, length, sym, ◌∙◌}
use borrow.Author.Tests.{ltb-false}
use Rattle.std.proofs.lemmas.Result.{err_from_is_err_and}
use Rattle.endian.specs.Believed.Numbers.{Bytes}
use Rattle.refusal.proofs.RefusalLaws.{number-some}
use Rattle.tidy_rules.specs.Believed.Tidy.{tidy_bytes}
use Rattle.tidy_rota.proofs.PutLaws.{outcome-refuses, outcome-exceeds, outcome-writes}
use Rattle.tidy_rota.proofs.tidy.Goals as goal

pub returns-in_err-rota : goal.returns-in_err-rota
returns-in_err-rota c =
    let a = c.args in
    let p = err_from_is_err_and c.from_residual.result c.from_residual.ensures.1 in
    rw (p.1, p.2) (outcome-refuses a.s.now a.out.now _ (sym c.in_err-rota.ensures.judged) (number-some _))

pub exceeds-requires : goal.exceeds-requires
exceeds-requires c = let b : Bytes c.args.s.now = λ i. omega (arith, c.type_inv.s i) in rw c.in_ok-rota.ensures.lent b

pub returns-then-exceeds : goal.returns-then-exceeds
returns-then-exceeds c =
    let a = c.args in
    outcome-exceeds a.s.now a.out.now (sym c.in_ok-rota.ensures.judged) (sym c.if-exceeds.true ∙ rw c.in_ok-rota.ensures.lent at c.exceeds.ensures)

pub put_tidy-requires : goal.put_tidy-requires
put_tidy-requires c =
    let a = c.args in
    let b : Bytes a.s.now = λ i. omega (arith, c.type_inv.s i) in
    rw c.in_ok-rota.ensures.lent
    (b, omega (arith, ltb-false (length a.out.now) (length (tidy_bytes a.s.now)) (sym (rw c.in_ok-rota.ensures.lent at c.exceeds.ensures) ∙ c.if-exceeds.false)))

pub returns : goal.returns
returns c =
    let a = c.args in
    let p = rw c.in_ok-rota.ensures.lent at c.put_tidy.ensures in
    outcome-writes a.s.now a.out.now (sym c.in_ok-rota.ensures.judged) _ _ (sym c.if-exceeds.false ∙ rw c.in_ok-rota.ensures.lent at c.exceeds.ensures) p.1 p.0
