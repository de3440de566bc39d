-- Each test of the code is the next rule of the record, in order.
use Rattle.hours.proofs.PairLaws.{pairs-refuse, pairs-pass}
use Rattle.hours.proofs.JudgeLaws.{cut_off, disordered, too-late, no-pair, too_many, pairs-cut, by-pairs}
use Rattle.minutes.specs.Believed.Minutes.{E}
use Rattle.std.proofs.Common.{refl, arith}
use Rattle.std.proofs.lemmas.Result.{err_from_is_err_and}
use Rattle.refusal.proofs.RefusalLaws.{number-some}
use Rattle.hours.proofs.judge.Goals as goal

pub returns-then-s-lt10 : goal.returns-then-s-lt10
returns-then-s-lt10 c = cut_off _ _ _ _ (omega arith)

pub returns-then-s-at : goal.returns-then-s-at
returns-then-s-at c = cut_off _ _ _ _ (omega arith)

pub returns-then-end-read32 : goal.returns-then-end-read32
returns-then-end-read32 c = disordered _ _ _ _ (omega arith) (omega arith)

pub returns-then-end-gt-END : goal.returns-then-end-gt-END
unfolding E
returns-then-end-gt-END c = too-late _ _ _ _ (omega arith) (omega arith) (omega arith)

pub returns-then-n-eq0 : goal.returns-then-n-eq0
unfolding E
returns-then-n-eq0 c = no-pair _ _ _ _ (omega arith) (omega arith) (omega arith) (omega arith)

pub returns-then-n-gt256 : goal.returns-then-n-gt256
unfolding E
returns-then-n-gt256 c = too_many _ _ _ _ (omega arith) (omega arith) (omega arith) (λ z. omega arith) (omega arith)

pub returns-then-n-total : goal.returns-then-n-total
unfolding E
returns-then-n-total c = too_many _ _ _ _ (omega arith) (omega arith) (omega arith) (λ z. omega arith) (omega arith)

pub returns-then-s-at-2 : goal.returns-then-s-at-2
unfolding E
returns-then-s-at-2 c = pairs-cut _ _ _ _ (omega arith) (omega arith) (omega arith) (λ z. omega arith) (omega arith) (omega arith)

pub returns-in_err-judge_pairs : goal.returns-in_err-judge_pairs
unfolding E
returns-in_err-judge_pairs c =
    let p = err_from_is_err_and c.from_residual.result c.from_residual.ensures.1 in
    rw (p.1, p.2) (pairs-refuse _ _ _ _ _ _ c.read16-n.ensures c.in_err-judge_pairs.ensures (number-some _)
    (by-pairs _ _ _ _ (omega arith) (omega arith) (omega arith) (λ z. omega arith) (omega arith) (omega arith)))

pub returns : goal.returns
unfolding E
returns c = pairs-pass _ _ _ _ _ _ c.read16-n.ensures c.in_ok-judge_pairs.ensures refl
    (by-pairs _ _ _ _ (omega arith) (omega arith) (omega arith) (λ z. omega arith) (omega arith) (omega arith))
