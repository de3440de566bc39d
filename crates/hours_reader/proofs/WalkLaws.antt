-- The walk over hours records, from `from` on.
--     Walked, walked-..     what a reader's walk keeps: before the first record, at a refusal, one record more
--     place-more            where the records of accepted bytes lie
--     Passed, passed-..     what a walk over accepted records keeps
--     Gathered, gather-..   and where it gathers the numbers of those that meet a test
-- Assumes nothing.
use Prim.Native.Nat.{ℕ, ◌+◌, ◌*◌, ◌≤◌, ◌<◌}
use Rattle.std.proofs.Common.{Ok, Err}
use mathlib.Core.Path.{◌≡◌, refl, sym, ◌∙◌, ap}
use mathlib.Core.List.{List}
use mathlib.Core.Bool.{Bool, true, false}
use native.Mathlib.Numerals.{add-one}
use native.Mathlib.Omega.{arith}
use native.Mathlib.Nat.{le_antisymm}
use lib.ListN.{length}
use Rattle.ground.specs.Believed.Judgement.{in_turn}
use Rattle.ground.specs.Believed.Outcome.{refused, given}
use Rattle.ground.proofs.OutcomeLaws.{refused-by, given_by}
use Rattle.ground.proofs.JudgementLaws.{turns-none, turns_more, turns-stop, turns-all}
use Rattle.bitset.specs.Believed.Sets.{insert}
use Rattle.bitset.proofs.SetLaws.{set_of-none, turn_in, turn-out}
use Rattle.refusal.specs.Believed.Numbers.{number}
use Rattle.refusal.specs.declared.Refusal.{Refusal}
use Rattle.hours.specs.Believed.Hours.{Hours}
use Rattle.hours.specs.Believed.HoursBytes.{pairs_at, record_at, pairs_before, hours_at}
use Rattle.hours.specs.Believed.HoursRefusals.{hours_judged, record_judged}
use Rattle.hours.specs.Answers.{hours_outcome}
use Rattle.hours.specs.Inside.{RecordsRead, records_that}
use Rattle.hours.proofs.JudgeLaws.{HoursFine, hours-fine}

-- k records are read and none is refused; the next begins at `at`, and there were `total` pairs
pub record Walked (s : List ℕ) (c from k at total : ℕ) : Type 0 where
  pub clear : in_turn (record_judged s c from) k ≡ 0
  pub here : at ≡ record_at s from k
  pub count : total ≡ pairs_before s from k
  pub within : at ≤ length s
  pub few : total ≤ 256

module _ (s : List ℕ) (from : ℕ) where
  pub record_at-zero : record_at s from 0 ≡ from
  unfolding record_at
  record_at-zero = refl

  pub record_at-more : (k : ℕ) → record_at s from (k + 1) ≡ record_at s from k + 10 + 4 * pairs_at s (record_at s from k)
  unfolding record_at
  record_at-more k = rw (add-one k)

  pub pairs_before-zero : pairs_before s from 0 ≡ 0
  unfolding pairs_before
  pairs_before-zero = refl

  pub pairs_before-more : (k : ℕ) → pairs_before s from (k + 1) ≡ pairs_before s from k + pairs_at s (record_at s from k)
  unfolding pairs_before
  pairs_before-more k = rw (add-one k)

  -- where record k of the walk lies, and the next
  pub place-more : (k at n : ℕ) → at ≡ record_at s from k → n ≡ pairs_at s at → at + 10 + 4 * n ≡ record_at s from (k + 1)
  place-more k at n here e = rw (e, record_at-more, here) refl

  module _ (c : ℕ) where
    pub walked_none : from ≤ length s → Walked s c from 0 from 0
    walked_none l =
        record {
          clear = turns-none _;
          here = sym record_at-zero;
          count = sym pairs_before-zero;
          within = l;
          few = omega arith;
        }

    module _ (k at total : ℕ) (w : Walked s c from k at total) where
      judged-here : hours_judged s c at total ≡ record_judged s c from k
      unfolding record_judged
      judged-here = rw (w.here, w.count)

      -- the record where the walk stands is refused
      pub walked_stop : (h : ℕ) (r : Refusal) → k < h → refused (number r) ≡ hours_outcome s c at total → RecordsRead s c from h (Err r)
      unfolding hours_outcome
      walked_stop h r l e =
          let j = refused-by _ _ _ e in
          record { judged = sym (turns-stop _ h k l w.clear (λ z. j.1 (judged-here ∙ z)) ∙ sym judged-here ∙ j.0); ends = tt; within = tt }

      -- or it is not, and has n pairs
      module _ (n : ℕ) (e : given n ≡ hours_outcome s c at total) where
        -- the next record begins within the bytes, and there are few pairs
        pub fits-here : (at + 10 + 4 * n ≤ length s) × (total + n ≤ 256)
        unfolding hours_outcome
        fits-here =
            let j = given_by _ _ _ e in
            let f = hours-fine s c at total j.0 in
            (omega (arith, f.within, j.1), omega (arith, f.few, j.1))

        pub walked_more : Walked s c from (k + 1) (at + 10 + 4 * n) (total + n)
        unfolding hours_outcome
        walked_more =
            let j = given_by _ _ _ e in
            record {
              clear = turns_more _ k w.clear (sym judged-here ∙ j.0);
              here = place-more k at n w.here j.1;
              count = rw (j.1, pairs_before-more, w.count, w.here) refl;
              within = fits-here.0;
              few = fits-here.1;
            }

    module _ (h : ℕ) where
      -- all records are read
      pub walked_all : (k at total : ℕ) → Walked s c from k at total → k ≤ h → h ≤ k → RecordsRead s c from h (Ok at)
      walked_all k at total w m l =
          let e : k ≡ h = le_antisymm m l in
          record { judged = rw (← e) (sym w.clear); ends = rw (← e) w.here; within = w.within }

      -- record k of accepted records
      pub record-fine : in_turn (record_judged s c from) h ≡ 0 → (k : ℕ) → k < h → HoursFine s c (record_at s from k) (pairs_before s from k)
      unfolding record_judged
      record-fine a k l = hours-fine _ _ _ _ (turns-all _ _ k l a)

-- ---- a walk over accepted records
-- the walk is past k of the h records, and the next begins at `at`
pub record Passed (s : List ℕ) (from h k at : ℕ) : Type 0 where
  pub below : k ≤ h
  pub here : at ≡ record_at s from k

pub passed_none : (s : List ℕ) (from h : ℕ) → Passed s from h 0 from
passed_none s from h = record { below = omega arith; here = sym (record_at-zero s from) }

module _ {s : List ℕ} {from h k at : ℕ} (w : Passed s from h k at) where
  pub passed-more : {r : ℕ} → k < h → r ≡ at + 10 + 4 * pairs_at s at → Passed s from h (k + 1) r
  passed-more l e = record { below = omega arith; here = e ∙ place-more s from k at (pairs_at s at) w.here refl }

  pub passed-end : h ≤ k → k ≡ h
  passed-end l = le_antisymm w.below l

  pub passed-fine : (c : ℕ) → in_turn (record_judged s c from) h ≡ 0 → k < h → HoursFine s c at (pairs_before s from k)
  passed-fine c a l = rw w.here (record-fine s from c h a k l)

-- of the records that the walk is past, the set has the numbers of those that meet a test
pub record Gathered (s : List ℕ) (from h : ℕ) (f : Hours → Bool) (set at k : ℕ) : Type 0 where
  pub passed : Passed s from h k at
  pub gathered : set ≡ records_that s from k f

module _ (s : List ℕ) (from h : ℕ) (f : Hours → Bool) where
  pub gather_none : Gathered s from h f 0 from 0
  unfolding records_that
  gather_none = record { passed = passed_none s from h; gathered = set_of-none _ }

  module _ {set at k r : ℕ} {b : Bool} (w : Gathered s from h f set at k) (l : k < h) (top : h ≤ 64) (test : b ≡ f (hours_at s at))
      (e : r ≡ at + 10 + 4 * pairs_at s at) where
    tested : b ≡ f (hours_at s (record_at s from k))
    tested = test ∙ ap (λ (i : ℕ). f (hours_at s i)) w.passed.here

    pub gather-in : {y : ℕ} → b ≡ true → y ≡ insert set k → Gathered s from h f y r (k + 1)
    unfolding records_that
    gather-in {y} q ey = record { passed = passed-more w.passed l e; gathered = turn_in k _ (omega arith) set y b w.gathered tested q ey }

    pub gather-out : {y : ℕ} → b ≡ false → y ≡ set → Gathered s from h f y r (k + 1)
    unfolding records_that
    gather-out {y} q ey = record { passed = passed-more w.passed l e; gathered = turn-out k _ (omega arith) set y b w.gathered tested q ey }

  pub gather-all : {set at k : ℕ} → Gathered s from h f set at k → h ≤ k → set ≡ records_that s from h f
  gather-all w l = w.gathered ∙ ap (λ (n : ℕ). records_that s from n f) (passed-end w.passed l)
