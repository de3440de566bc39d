-- Hours records are accepted exactly when the hours that they spell are admitted.
--     record_at-is, pairs_before-up, pairs-in     where a record begins by the pairs before it; that sum rises; it counts the pairs of the hours spelled
--     pairs-well, pairs-each                    admitted pairs by index, both ways
--     pair-fine, pair-clear                     a pair that is not refused, both ways
--     hours-well, hours-clear                   a record that is not refused, both ways
--     records-iff                               all records
-- Assumes nothing.
use Prim.Native.Nat.{ℕ, zero, suc, ◌+◌, ◌*◌, ◌≤◌, ◌<◌}
use mathlib.Core.Path.{◌≡◌, refl, ◌∙◌}
use mathlib.Core.Logic.{◌↔◌, ⊎_elim}
use mathlib.Core.List.{List, [], ◌∷◌, ◌++◌}
use native.Mathlib.Nat.{not-suc-le-zero, le_of_suc-le-suc, eq-or-lt_of_le, le_refl}
use native.Mathlib.Omega.{arith}
use borrow.Author.Tests.{ltb-false, ne_eqb, le-ltb, lt-leb}
use lib.ListN.{length}
use Rattle.ground.specs.Believed.Judgement.{refuse, ◌or_else◌, in_turn}
use Rattle.ground.specs.Believed.Sequence.{list_of, All}
use Rattle.ground.proofs.BoolLaws.{or_no}
use Rattle.ground.proofs.JudgementLaws.{refuse-no, pos_of, turns-all, turns-clear}
use Rattle.ground.proofs.SequenceLaws.{list_of-length, list_of-cons, all-list_of, list_of-all}
use Rattle.hours.specs.Believed.Hours.{Pair, Hours}
use Rattle.hours.specs.Believed.HoursBytes.{pair_at, pairs_at, hours_at, record_at, pairs_before, hours_from}
use Rattle.hours.specs.Believed.HoursRefusals.{earliest, pair_judged, hours_judged, record_judged}
use Rattle.hours.specs.HoursWell.{PairWell, PairsWell, HoursWell, pairs_in}
use Rattle.hours.proofs.JudgeLaws.{HoursFine}
use Rattle.hours_reader.proofs.WalkLaws.{record-fine}

pairs_in-more : (hs : List Hours) (h : Hours) → pairs_in (hs ++ (h ∷ [])) ≡ pairs_in hs + length h.pairs
unfolding pairs_in
pairs_in-more [] h = omega arith
pairs_in-more (x ∷ hs) h = omega (arith, pairs_in-more hs h)

module _ (s : List ℕ) (from : ℕ) where
  -- where a record begins, by the pairs before it
  pub record_at-is : (n : ℕ) → record_at s from n ≡ from + (10 * n + 4 * pairs_before s from n)
  unfolding record_at pairs_before
  record_at-is zero = omega arith
  record_at-is (suc n) = omega (arith, record_at-is n)

  pub pairs_before-up : (k n : ℕ) → k ≤ n → pairs_before s from k ≤ pairs_before s from n
  unfolding pairs_before
  pairs_before-up k zero l = let e : k ≡ 0 = omega arith in rw e (le_refl _)
  pairs_before-up k (suc n) l =
      ⊎_elim
      (λ (e : k ≡ suc n). rw e (le_refl _))
      (λ (m : k < suc n). omega (arith, pairs_before-up k n (le_of_suc-le-suc m)))
      (eq-or-lt_of_le l)

  pub pairs-in : (n : ℕ) → pairs_in (hours_from s from n) ≡ pairs_before s from n
  unfolding pairs_in hours_from list_of pairs_before
  pairs-in zero = refl
  pairs-in (suc n) =
      pairs_in-more (hours_from s from n) (hours_at s (record_at s from n))
      ∙ rw (list_of-length (pairs_at s (record_at s from n)) (pair_at s (record_at s from n + 10)), pairs-in n)

-- pairs by index, where low k is where pair k may start
pub pairs-well : (c n : ℕ) (f : ℕ → Pair) (low : ℕ → ℕ) → ((k : ℕ) → low (suc k) ≡ (f k).offset + (f k).length + 1)
    → ((k : ℕ) → k < n → PairWell c (low k) (f k)) → PairsWell c (low 0) (list_of n f)
pairs-well c zero f low up h = unfold list_of in tt
pairs-well c (suc n) f low up h =
    let ps = pairs-well c n (λ k. f (suc k)) (λ k. low (suc k)) (λ k. up (suc k)) (λ k l. h (suc k) (omega arith)) in
    rw list_of-cons (h 0 (omega arith), rw (up 0) at ps)

pub pairs-each : (c n : ℕ) (f : ℕ → Pair) (low : ℕ → ℕ) → ((k : ℕ) → low (suc k) ≡ (f k).offset + (f k).length + 1)
    → PairsWell c (low 0) (list_of n f) → (k : ℕ) → k < n → PairWell c (low k) (f k)
pairs-each c zero f low up w k l = absurd (not-suc-le-zero l)
pairs-each c (suc n) f low up w zero l = let v = rw list_of-cons at w in v.0
pairs-each c (suc n) f low up w (suc k) l =
    let v = rw list_of-cons at w in
    pairs-each c n (λ k. f (suc k)) (λ k. low (suc k)) (λ k. up (suc k)) (rw (← up 0) at v.1) k (le_of_suc-le-suc l)

module _ (s : List ℕ) (c : ℕ) where
  pub pair-fine : (at j : ℕ) → pair_judged s c at j ≡ 0 → PairWell c (earliest s at j) (pair_at s at j)
  unfolding pair_judged
  pair-fine at j h =
      let r = or_no _ _ (refuse-no _ _ h) in
      let q = or_no _ _ r.0 in
      record { starts = ltb-false _ _ r.1; some = pos_of _ q.0; ends = ltb-false _ _ q.1 }

  pub pair-clear : (at j : ℕ) → PairWell c (earliest s at j) (pair_at s at j) → pair_judged s c at j ≡ 0
  unfolding pair_judged refuse
  pair-clear at j p = rw (ne_eqb (pair_at s at j).length 0 (λ z. omega (arith, p.some)), le-ltb _ _ p.ends, le-ltb _ _ p.starts)

  module _ (at total : ℕ) where
    pub hours-well : HoursFine s c at total → HoursWell c (hours_at s at)
    unfolding earliest
    hours-well f =
        record {
          ordered = f.ordered;
          ends = f.ends;
          some_pair = rw list_of-length f.some_pair;
          pairs = pairs-well c _ _ (earliest s (at + 10)) (λ k. refl) (λ k l. pair-fine (at + 10) k (turns-all _ _ k l f.pairs));
        }

    pub hours-clear : at + 10 + 4 * pairs_at s at ≤ length s → total + pairs_at s at ≤ 256 → HoursWell c (hours_at s at) → hours_judged s c at total ≡ 0
    unfolding hours_judged refuse ◌or_else◌ earliest
    hours-clear within few w =
        let some : 0 < pairs_at s at = rw list_of-length at w.some_pair in
        simp (
          le-ltb (length s) (at + 10) (omega arith),
          lt-leb _ _ w.ordered,
          le-ltb _ _ w.ends,
          ne_eqb (pairs_at s at) 0 (λ z. omega arith),
          le-ltb _ _ few,
          le-ltb _ _ within,
        ) (turns-clear _ _ (λ k l. pair-clear (at + 10) k (pairs-each c _ _ (earliest s (at + 10)) (λ k. refl) w.pairs k l)))

  module _ (from n : ℕ) (within : record_at s from n ≤ length s) where
    clear-at : (k : ℕ) → k < n → pairs_before s from (suc k) ≤ pairs_before s from n → HoursWell c (hours_at s (record_at s from k)) → pairs_before s from n ≤ 256 → record_judged s c from k ≡ 0
    unfolding record_judged pairs_before
    clear-at k l more w f = hours-clear _ _ (omega (arith, record_at-is s from k, record_at-is s from n, more)) (omega (arith, more)) w

    pub records-iff : (in_turn (record_judged s c from) n ≡ 0) ↔ (All (HoursWell c) (hours_from s from n) × (pairs_in (hours_from s from n) ≤ 256))
    unfolding hours_from
    records-iff = (
      (λ a. (all-list_of (HoursWell c) n _ (λ k l. hours-well _ _ (record-fine s from c n a k l)), rw (pairs-in s from) (few n a))),
      (λ w. turns-clear _ _ (λ k l. clear k l (list_of-all (HoursWell c) n _ w.0 k l) (rw (pairs-in s from) at w.1))),
    )
      where
        few : (n : ℕ) → in_turn (record_judged s c from) n ≡ 0 → pairs_before s from n ≤ 256
        few zero a = unfold pairs_before in omega arith
        few (suc n) a = unfold pairs_before in omega (arith, (record-fine s from c (suc n) a n (le_refl (suc n))).few)

        clear : (k : ℕ) → k < n → HoursWell c (hours_at s (record_at s from k)) → pairs_before s from n ≤ 256 → record_judged s c from k ≡ 0
        clear k l w f =
            clear-at k l (pairs_before-up s from (suc k) n l) w f
