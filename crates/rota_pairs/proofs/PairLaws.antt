-- Pairs that are not refused are well, and the other way round.
--     pair-well, pair-good, senior-bad, junior-bad     one pair
--     judged-none, judged-more, judged-stop            the judging loop: before the first pair, at one that passes, at one that is refused
--     pair_of, pairs-iff                               pair k of pairs that are well; all of them
--     well-more                                        pairs that are well among R roles are so among more
-- Assumes nothing.
use Prim.Native.Nat.{ℕ, ◌+◌, ◌≤◌, ◌<◌}
use mathlib.Core.Path.{◌≡◌, refl, sym}
use mathlib.Core.Logic.{◌↔◌}
use mathlib.Core.Bool.{◌||◌, or-true}
use mathlib.Core.List.{List}
use native.Mathlib.Omega.{arith}
use lib.Dec.{leb}
use borrow.Author.Tests.{leb-false, le-leb}
use Rattle.ground.specs.Believed.Judgement.{refuse}
use Rattle.ground.proofs.BoolLaws.{or_no}
use Rattle.ground.proofs.ListLaws.{all-with}
use Rattle.ground.proofs.SequenceLaws.{all-list_of, list_of-all}
use Rattle.ground.proofs.JudgementLaws.{tests, refuse-no, turns-none, turns_more, turns-refused, turns-all, turns-clear}
use Rattle.rota_pairs.specs.Hierarchy.{Pairing, PairsWell}
use Rattle.rota_pairs.specs.Pairs.{pair_at, pairs_of, pair_judged, pairs_judged}

-- one pair
module _ (R : ℕ) (x : Pairing) where
  pub pair-well : pair_judged R x ≡ 0 → (x.junior < x.senior) × (x.senior < R)
  unfolding pair_judged
  pair-well h =
      let t = or_no _ _ (refuse-no 53 _ h) in
      (leb-false _ _ t.1, leb-false _ _ (or_no _ _ t.0).0)

  pub pair-good : x.senior < R → x.junior < x.senior → pair_judged R x ≡ 0
  unfolding pair_judged refuse
  pair-good l m = let k : x.junior < R = omega arith in search (tests)

  pub senior-bad : R ≤ x.senior → pair_judged R x ≡ 54
  unfolding pair_judged refuse
  senior-bad l = search (tests)

  pub junior-bad : x.senior ≤ x.junior → pair_judged R x ≡ 54
  unfolding pair_judged refuse
  junior-bad m = rw (le-leb _ _ m, or-true (leb R x.senior || leb R x.junior)) refl

-- all of them
module _ (R : ℕ) (s : List ℕ) (at : ℕ) where
  abbrev judged : ℕ → ℕ
  judged k = pair_judged R (pair_at s at k)

  pub judged-none : pairs_judged R s at 0 ≡ 0
  unfolding pairs_judged
  judged-none = turns-none judged

  module _ (n : ℕ) where
    pub judged-more : pairs_judged R s at n ≡ 0 → pair_judged R (pair_at s at n) ≡ 0 → pairs_judged R s at (n + 1) ≡ 0
    unfolding pairs_judged
    judged-more h e = turns_more judged n h e

    pub judged-stop : (k : ℕ) → k < n → pairs_judged R s at k ≡ 0 → pair_judged R (pair_at s at k) ≡ 54 → 54 ≡ pairs_judged R s at n
    unfolding pairs_judged
    judged-stop k l h e = sym (turns-refused judged n k 54 (omega arith) l h e)

    pub pair_of : PairsWell R (pairs_of s at n) → (k : ℕ) → k < n → ((pair_at s at k).junior < (pair_at s at k).senior) × ((pair_at s at k).senior < R)
    unfolding pairs_of
    pair_of w k l = list_of-all (λ (x : Pairing). (x.junior < x.senior) × (x.senior < R)) n (pair_at s at) w k l

    pub pairs-iff : (pairs_judged R s at n ≡ 0) ↔ PairsWell R (pairs_of s at n)
    unfolding pairs_judged pairs_of
    pairs-iff = (
      λ h. all-list_of _ n (pair_at s at) (λ k l. pair-well R (pair_at s at k) (turns-all judged n k l h)),
      λ w. turns-clear judged n (λ k l. let p = pair_of w k l in pair-good R (pair_at s at k) p.1 p.0),
    )

pub well-more : (R m : ℕ) → R ≤ m → (pairs : List Pairing) → PairsWell R pairs → PairsWell m pairs
well-more R m l pairs w = all-with (λ (x : Pairing) p. (p.0, omega (arith, p.1))) pairs w
