-- Pairs: what a judging loop over the pairs of a record finds at pair j, whose offset and length are o and n.
-- Assumes nothing.
use Prim.Native.Nat.{ℕ, ◌+◌}
use mathlib.Core.Path.{◌≡◌, refl, ◌∙◌, ap, ap₂}
use mathlib.Core.List.{List}
use mathlib.Core.Bool.{Bool, true, false, ◌||◌}
use native.Mathlib.Numerals.{add-one}
use lib.Dec.{eqb, ltb}
use Rattle.ground.specs.Believed.Judgement.{refuse, in_turn}
use Rattle.ground.specs.Believed.Outcome.{Outcome, refused, given, outcome}
use Rattle.ground.proofs.OutcomeLaws.{outcome-refused, outcome-given}
use Rattle.hours.specs.Believed.HoursBytes.{offset_at, length_at, pairs_at}
use Rattle.hours.specs.Believed.HoursRefusals.{earliest, pair_judged}

module _ (s : List ℕ) (at j o n : ℕ) (eo : o ≡ offset_at s at j) (en : n ≡ length_at s at j) where
  -- refused by the test r
  pub pair-judged : (c low : ℕ) (r : Bool) → low ≡ earliest s at j → r ≡ (eqb n 0 || ltb c (o + n) || ltb o low) → pair_judged s c at j ≡ refuse 8 r
  unfolding pair_judged
  pair-judged c low r el er = rw (er, el, eo, en)

  pub pair-bad : (c low : ℕ) (r : Bool) → low ≡ earliest s at j → r ≡ (eqb n 0 || ltb c (o + n) || ltb o low) → r ≡ true → pair_judged s c at j ≡ 8
  unfolding refuse
  pair-bad c low r el er e = pair-judged c low r el er ∙ rw e refl

  pub pair-good : (c low : ℕ) (r : Bool) → low ≡ earliest s at j → r ≡ (eqb n 0 || ltb c (o + n) || ltb o low) → r ≡ false → pair_judged s c at j ≡ 0
  unfolding refuse
  pair-good c low r el er e = pair-judged c low r el er ∙ rw e refl

  pub earliest-more : o + n + 1 ≡ earliest s at (j + 1)
  unfolding earliest
  earliest-more = rw (add-one j, eo, en)

-- the pairs of a record, n in number, decide: a refusal, or none
module _ (s : List ℕ) (c at n bad : ℕ) (o : Outcome ℕ) (en : n ≡ pairs_at s at) (eb : bad ≡ in_turn (pair_judged s c (at + 10)) n) where
  pub pairs-refuse : (bad ≡ 0 → ⊥) → outcome (in_turn (pair_judged s c (at + 10)) (pairs_at s at)) (pairs_at s at) ≡ o → refused bad ≡ o
  pairs-refuse h e = outcome-refused bad n h ∙ ap₂ outcome eb en ∙ ap (λ (m : ℕ). outcome (in_turn (pair_judged s c (at + 10)) m) (pairs_at s at)) en ∙ e

  pub pairs-pass : bad ≡ 0 → outcome (in_turn (pair_judged s c (at + 10)) (pairs_at s at)) (pairs_at s at) ≡ o → given n ≡ o
  pairs-pass h e = outcome-given bad n h ∙ ap₂ outcome eb en ∙ ap (λ (m : ℕ). outcome (in_turn (pair_judged s c (at + 10)) m) (pairs_at s at)) en ∙ e

pub earliest-none : (s : List ℕ) (at : ℕ) → 0 ≡ earliest s at 0
unfolding earliest
earliest-none s at = refl
