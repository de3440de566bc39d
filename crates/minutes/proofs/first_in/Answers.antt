use native.Mathlib.Omega.{arith}
use native.Mathlib.Nat.{mod-lt}
use Rattle.minutes.specs.Believed.Minutes.{E}
use Rattle.minutes.proofs.FirstLaws.{first-low, first-here, first-late}
use Rattle.minutes.proofs.first_in.Goals as goal

pub overflow_add-result : goal.overflow_add-result
unfolding E
overflow_add-result c = omega (arith, c.requires)

pub returns-then-m-offset : goal.returns-then-m-offset
returns-then-m-offset c = first-low _ _ _ _ _ c.phase-m.ensures c.if-m-offset.true

pub returns-then-m-end : goal.returns-then-m-end
returns-then-m-end c = first-here _ _ _ _ _ c.phase-m.ensures c.if-m-offset.false c.if-m-end.true

pub overflow_sub-result-2 : goal.overflow_sub-result-2
overflow_sub-result-2 c = omega (arith, c.phase-m.ensures, mod-lt c.args.from c.requires.0)

pub overflow_add-result-2 : goal.overflow_add-result-2
unfolding E
overflow_add-result-2 c = omega (arith, c.requires)

pub overflow_add-result-3 : goal.overflow_add-result-3
unfolding E
overflow_add-result-3 c = omega (arith, c.requires)

pub returns : goal.returns
returns c = first-late _ _ _ _ _ c.phase-m.ensures c.if-m-offset.false c.if-m-end.false
