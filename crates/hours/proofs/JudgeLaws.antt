-- The judgement of one hours record, rule by rule in 01's order, and what is known of a record that is not refused.
-- Assumes nothing.
use Prim.Native.Nat.{ℕ, ◌+◌, ◌*◌, ◌≤◌, ◌<◌}
use mathlib.Core.Path.{◌≡◌}
use mathlib.Core.List.{List}
use native.Mathlib.Omega.{arith}
use borrow.Author.Tests.{leb-false, ltb-false}
use lib.ListN.{length}
use Rattle.ground.specs.Believed.Judgement.{refuse, ◌or_else◌, in_turn}
use Rattle.ground.specs.Believed.Outcome.{refused, given, outcome}
use Rattle.ground.proofs.OutcomeLaws.{given_by}
use Rattle.ground.proofs.BoolLaws.{or_no}
use Rattle.ground.proofs.JudgementLaws.{tests, or_else-zero, refuse-no, pos_of, turns-all}
use Rattle.minutes.specs.Believed.Minutes.{E}
use Rattle.hours.specs.Believed.HoursBytes.{offset_at, length_at, begin_at, end_at, pairs_at}
use Rattle.hours.specs.Believed.HoursRefusals.{pair_judged, hours_judged}
use Rattle.hours.specs.Answers.{hours_outcome}

module _ (s : List ℕ) (c at total : ℕ) where
  pub cut_off : length s < at + 10 → refused 5 ≡ hours_outcome s c at total
  unfolding hours_outcome outcome hours_judged refuse ◌or_else◌
  cut_off h = search (tests)

  module _ (a : at + 10 ≤ length s) where
    pub disordered : end_at s at ≤ begin_at s at → refused 6 ≡ hours_outcome s c at total
    unfolding hours_outcome outcome hours_judged refuse ◌or_else◌
    disordered h = search (tests)

    module _ (b : begin_at s at < end_at s at) where
      pub too-late : E < end_at s at → refused 6 ≡ hours_outcome s c at total
      unfolding hours_outcome outcome hours_judged refuse ◌or_else◌
      too-late h = search (tests)

      module _ (d : end_at s at ≤ E) where
        pub no-pair : pairs_at s at ≡ 0 → refused 7 ≡ hours_outcome s c at total
        unfolding hours_outcome outcome hours_judged refuse ◌or_else◌
        no-pair h = search (tests)

        module _ (e : pairs_at s at ≡ 0 → ⊥) where
          pub too_many : 256 < total + pairs_at s at → refused 7 ≡ hours_outcome s c at total
          unfolding hours_outcome outcome hours_judged refuse ◌or_else◌
          too_many h = search (tests)

          module _ (f : total + pairs_at s at ≤ 256) where
            pub pairs-cut : length s < at + 10 + 4 * pairs_at s at → refused 5 ≡ hours_outcome s c at total
            unfolding hours_outcome outcome hours_judged refuse ◌or_else◌
            pairs-cut h = search (tests)

            module _ (g : at + 10 + 4 * pairs_at s at ≤ length s) where
              -- the pairs decide
              pub by-pairs : outcome (in_turn (pair_judged s c (at + 10)) (pairs_at s at)) (pairs_at s at) ≡ hours_outcome s c at total
              unfolding hours_outcome hours_judged refuse ◌or_else◌
              by-pairs = search (tests)

pub record HoursFine (s : List ℕ) (c at total : ℕ) : Type 0 where
  pub within : at + 10 + 4 * pairs_at s at ≤ length s
  pub ordered : begin_at s at < end_at s at
  pub ends : end_at s at ≤ E
  pub some_pair : 0 < pairs_at s at
  pub few : total + pairs_at s at ≤ 256
  pub pairs : in_turn (pair_judged s c (at + 10)) (pairs_at s at) ≡ 0

pub hours-fine : (s : List ℕ) (c at total : ℕ) → hours_judged s c at total ≡ 0 → HoursFine s c at total
unfolding hours_judged
hours-fine s c at total h =
    let h1 = or_else-zero _ _ h in
    let h2 = or_else-zero _ _ h1.1 in
    let h3 = or_else-zero _ _ h2.1 in
    let h4 = or_else-zero _ _ h3.1 in
    let r2 = or_no _ _ (refuse-no _ _ h2.0) in
    let r3 = or_no _ _ (refuse-no _ _ h3.0) in
    record {
      within = ltb-false _ _ (refuse-no _ _ h4.0);
      ordered = leb-false _ _ r2.0;
      ends = ltb-false _ _ r2.1;
      some_pair = pos_of _ r3.0;
      few = ltb-false _ _ r3.1;
      pairs = h4.1;
    }

-- a record that is not refused has a pair, so its cycle has a minute
pub some-cycle : (s : List ℕ) (c at total : ℕ) → hours_judged s c at total ≡ 0 → 0 < c
unfolding pair_judged
some-cycle s c at total h =
    let f = hours-fine s c at total h in
    let p : pair_judged s c (at + 10) 0 ≡ 0 = turns-all (pair_judged s c (at + 10)) (pairs_at s at) 0 f.some_pair f.pairs in
    let r = or_no _ _ (or_no _ _ (refuse-no _ _ p)).0 in
    let a : 0 < length_at s (at + 10) 0 = pos_of _ r.0 in
    let b : offset_at s (at + 10) 0 + length_at s (at + 10) 0 ≤ c = ltb-false _ _ r.1 in
    omega arith

-- what a caller that is given the number of pairs knows
pub accepted-here : (s : List ℕ) (c at total n : ℕ) → given n ≡ hours_outcome s c at total → HoursFine s c at total × (0 < c)
unfolding hours_outcome
accepted-here s c at total n e = let z = (given_by n _ _ e).0 in (hours-fine s c at total z, some-cycle s c at total z)
