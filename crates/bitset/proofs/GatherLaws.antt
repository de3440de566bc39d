-- Loops that gather a set, each turn of which puts at most one number in, or a whole set.
--     gather_none, gather-in, gather-out    before the first turn; a turn that puts a in; a turn that puts nothing in
--     gather-start, gather-union            before the first turn; a turn that adds a set
--     lowest-of, none_of                    the lowest member of a set given by a test, and a set with no member
-- Assumes nothing.
use mathlib.Core.Path.{◌≡◌, sym, ap, ap₂, ◌∙◌}
use mathlib.Core.Bool.{Bool, true, false, ◌&&◌, ◌||◌, or-false}
use Rattle.std.proofs.Common.{None, Some}
use Prim.Native.Nat.{ℕ, ◌+◌, ◌≤◌, ◌<◌, ◌^◌}
use native.Mathlib.Nat.{lt_of_lt_of_le}
use native.Mathlib.Omega.{arith}
use lib.Dec.{eqb, ltb}
use lib.Pow.{pow_pos, pow_mono}
use borrow.Author.Tests.{ltb-true}
use Rattle.ground.specs.Believed.Search.{any_below, lowest_below}
use Rattle.ground.proofs.BoolLaws.{and_yes, eqb-sym}
use Rattle.ground.proofs.SearchLaws.{any_none, any-turn, lowest-is, lowest-none}
use Rattle.bitset.specs.Believed.Sets.{has, set_of, insert, union, Lowest}
use Rattle.bitset.proofs.SetLaws.{insert-lt, has-set_of, has-below, has-insert, has-none, set_of-has, set_of-lt, set_of-same}

-- turn k puts target k in where its test holds
module _ (n : ℕ) (top : n ≤ 64) (test : ℕ → Bool) (target : ℕ → ℕ) where
  -- the numbers below n that one of the first k turns puts in
  abbrev pub gathered : ℕ → ℕ
  gathered k = set_of n (λ j. any_below k (λ i. test i && eqb (target i) j))

  pub gather_none : 0 ≡ gathered 0
  gather_none = set_of-has n 0 _ (pow_pos n) (λ i l. has-none i ∙ sym (any_none _))

  module _ (k x y : ℕ) (t : Bool) (a : ℕ) (ex : x ≡ gathered k) (et : t ≡ test k) (ea : a ≡ target k) where
    in-x : (j : ℕ) → j < n → has x j ≡ any_below k (λ i. test i && eqb (target i) j)
    in-x j m = ap (λ (s : ℕ). has s j) ex ∙ has-below n _ j m

    one_more : (j : ℕ) → any_below (k + 1) (λ i. test i && eqb (target i) j) ≡ (any_below k (λ i. test i && eqb (target i) j) || (t && eqb a j))
    one_more j = any-turn _ k ∙ ap₂ (λ (b : Bool) (c : ℕ). any_below k (λ i. test i && eqb (target i) j) || (b && eqb c j)) (sym et) (sym ea)

    pub gather-in : a < n → t ≡ true → y ≡ insert x a → y ≡ gathered (k + 1)
    gather-in l e ey = set_of-has n y _ small members
      where
        members : (j : ℕ) → j < n → has y j ≡ any_below (k + 1) (λ i. test i && eqb (target i) j)
        members j m =
            ap (λ (s : ℕ). has s j) ey ∙ has-insert x a j (omega arith)
            ∙ ap₂ ◌||◌ (in-x j m) (eqb-sym j a ∙ ap (λ (b : Bool). b && eqb a j) (sym e)) ∙ sym (one_more j)

        small : y < 2 ^ n
        small =
            let p : x < 2 ^ n = rw ex (set_of-lt n _) in
            rw ey (insert-lt x a (lt_of_lt_of_le p (pow_mono top)) (omega arith) n l p)

    pub gather-out : t ≡ false → y ≡ x → y ≡ gathered (k + 1)
    gather-out e ey =
        ey ∙ ex
        ∙ set_of-same n _ _
        (λ j m. sym (one_more j ∙ ap (λ (b : Bool). any_below k (λ i. test i && eqb (target i) j) || (b && eqb a j)) e ∙ or-false _))

-- `g j k` says that turn k puts j in, and turn k adds the set z
module _ (g : ℕ → ℕ → Bool) where
  pub gather-start : 0 ≡ set_of 64 (λ j. any_below 0 (g j))
  gather-start = set_of-has 64 0 _ (pow_pos 64) (λ j l. has-none j ∙ sym (any_none (g j)))

  pub gather-union : (k x y z : ℕ) → x ≡ set_of 64 (λ j. any_below k (g j)) → ((j : ℕ) → j < 64 → g j k ≡ has z j) → y ≡ union x z
      → y ≡ set_of 64 (λ j. any_below (k + 1) (g j))
  unfolding union
  gather-union k x y z ex h ey =
      ey
      ∙ set_of-same 64 _ _ (λ j l. ap₂ ◌||◌ (ap (λ (m : ℕ). has m j) ex ∙ has-below 64 _ j l) (sym (h j l)) ∙ sym (any-turn (g j) k))

module _ (n : ℕ) (f : ℕ → Bool) (x : ℕ) (ex : x ≡ set_of n f) where
  member_of : (j : ℕ) → has x j ≡ (ltb j n && f j)
  member_of j = ap (λ (s : ℕ). has s j) ex ∙ has-set_of n f j

  pub lowest-of : (r : ℕ) → Lowest x r → lowest_below n f ≡ Some r
  lowest-of r w =
      let b = and_yes (ltb r n) (f r) (sym (member_of r) ∙ w.member) in
      let l : r < n = ltb-true r n b.0 in
      lowest-is f n r l b.1 (λ j m. sym (has-below n f j (omega arith)) ∙ ap (λ (s : ℕ). has s j) (sym ex) ∙ w.below j m)

  pub none_of : x ≡ 0 → lowest_below n f ≡ None
  none_of z = lowest-none f n (λ j m. sym (has-below n f j m) ∙ ap (λ (s : ℕ). has s j) (sym ex ∙ z) ∙ has-none j)
