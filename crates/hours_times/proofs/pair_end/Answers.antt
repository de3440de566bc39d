-- The first pair that ends after the phase decides.
use Rattle.std.proofs.Common.{arith, sym}
use native.Mathlib.Nat.{le_refl}
use Rattle.hours_times.proofs.SpanLaws.{reach-off, reach-on, past-all}
use Rattle.hours_times.proofs.pair_end.Goals as goal

pub returns-then-n-j-clause-none : goal.returns-then-n-j-clause-none
returns-then-n-j-clause-none c = sym (past-all _ _ _ c.requires.0 _ _ _ c.read16-n.ensures c.first_ending-j.ensures _ (le_refl _) c.if-n-j.true)

pub returns-then-x-offset-clause-none : goal.returns-then-x-offset-clause-none
returns-then-x-offset-clause-none c =
    let p = reach-off _ _ _ c.requires.0 _ _ _ c.read16-n.ensures c.first_ending-j.ensures _ c.if-n-j.false c.read16-offset.ensures c.if-x-offset.true in
    sym (p.is _ (le_refl _) p.after)

pub returns-clause-some : goal.returns-clause-some
returns-clause-some c = reach-on _ _ _ c.requires.0 _ _ _ c.read16-n.ensures c.first_ending-j.ensures _ _ c.if-n-j.false c.read16-offset.ensures c.if-x-offset.false (omega (arith, c.read16.ensures))
