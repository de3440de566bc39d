-- The sets of juniors, one for each role.
--     Filled          those of a list of pairs, each a set of numbers below 64
--     filled_none     32 empty sets are those of no pair
--     filled_more     one pair more
-- Assumes nothing.
use Prim.Native.Nat.{ℕ, ◌+◌, ◌^◌, ◌<◌}
use mathlib.Core.Path.{◌≡◌, refl, sym, ap, ap₂, ◌∙◌}
use mathlib.Core.Bool.{Bool, true, false, ◌&&◌, ◌||◌, or-false}
use mathlib.Core.List.{List}
use native.Mathlib.Omega.{arith}
use lib.Dec.{eqb}
use lib.ListN.{length, get_or, replicate, length-set, length-replicate, get_or-replicate}
use lib.Seq.{get_or-set_same, get_or-set_other}
use borrow.Author.Tests.{eqb-true, eqb-false, ne_eqb}
use Rattle.ground.specs.Believed.Search.{any}
use Rattle.ground.proofs.BoolLaws.{eqb-sym, by-ltb}
use Rattle.ground.proofs.SearchLaws.{any_none, any-turn, list_any}
use Rattle.bitset.specs.Believed.Sets.{has, insert}
use Rattle.bitset.proofs.SetLaws.{has-none, has-set_of, has-past, set_of-lt}
use Rattle.rota_pairs.specs.Hierarchy.{Pairing}
use Rattle.rota_pairs.specs.HandedDown.{JuniorsAre}
use Rattle.rota_pairs.specs.Pairs.{pair_at, pairs_of}
use Rattle.rota_pairs.specs.Filling.{with_junior}

pub record Filled (pairs : List Pairing) (js : List ℕ) : Type 0 where
  pub long : length js ≡ 32
  pub fit : (r : ℕ) → r < 32 → get_or js r 0 < 2 ^ 64
  pub are : JuniorsAre pairs js

-- a pair is that of r and q
abbrev joins : ℕ → ℕ → Pairing → Bool
joins r q x = eqb x.senior r && eqb x.junior q

-- a member put into a set, of any number: also one that is in no set
insert-any : (x y : ℕ) → x < 2 ^ 64 → y < 64 → (j : ℕ) → has (insert x y) j ≡ (has x j || eqb j y)
unfolding insert
insert-any x y fx fy j =
    has-set_of 64 _ j
    ∙ by-ltb (λ b. (b && (has x j || eqb j y)) ≡ (has x j || eqb j y)) j 64 (λ l. refl)
    (λ l. sym (ap₂ ◌||◌ (has-past 64 x j fx l) (ne_eqb j y (λ e. omega arith))))

insert-fits : (x y : ℕ) → insert x y < 2 ^ 64
unfolding insert
insert-fits x y = set_of-lt 64 _

-- and into set i of some
module _ (xs : List ℕ) (i y : ℕ) (l : i < length xs) where
  put-fits : (r : ℕ) → get_or xs r 0 < 2 ^ 64 → get_or (with_junior xs i y) r 0 < 2 ^ 64
  put-fits r f = go (eqb i r) refl
    where
      go : (b : Bool) → eqb i r ≡ b → get_or (with_junior xs i y) r 0 < 2 ^ 64
      go true e = rw (← (eqb-true i r e)) (rw (get_or-set_same xs i (insert (get_or xs i 0) y) 0 l) (insert-fits (get_or xs i 0) y))
      go false e = rw (get_or-set_other xs i r (insert (get_or xs i 0) y) 0 (λ q. eqb-false _ _ e (sym q))) f

  put_has : get_or xs i 0 < 2 ^ 64 → y < 64 → (r q : ℕ) → has (get_or (with_junior xs i y) r 0) q ≡ (has (get_or xs r 0) q || (eqb i r && eqb y q))
  put_has f m r q = go (eqb i r) refl
    where
      go : (b : Bool) → eqb i r ≡ b → has (get_or (with_junior xs i y) r 0) q ≡ (has (get_or xs r 0) q || (b && eqb y q))
      go true e =
          rw (← (eqb-true i r e))
          (ap (λ (n : ℕ). has n q) (get_or-set_same xs i (insert (get_or xs i 0) y) 0 l)
          ∙ insert-any _ y f m q
          ∙ ap (λ (b : Bool). has (get_or xs i 0) q || b) (eqb-sym q y))
      go false e = ap (λ (n : ℕ). has n q) (get_or-set_other xs i r (insert (get_or xs i 0) y) 0 (λ p. eqb-false _ _ e (sym p))) ∙ sym (or-false _)

module _ (s : List ℕ) (at : ℕ) where
  pub filled_none : (js : List ℕ) → js ≡ replicate 32 0 → Filled (pairs_of s at 0) js
  unfolding pairs_of
  filled_none js e =
      record {
        long = ap length e ∙ length-replicate {A = ℕ} 32 0;
        fit = λ r l. rw (empty r l) (omega arith);
        are = record { at = λ r q l. ap (λ (y : ℕ). has y q) (empty r l) ∙ has-none q ∙ sym (list_any (joins r q) 0 (pair_at s at) ∙ any_none _) };
      }
    where
      empty : (r : ℕ) → r < 32 → get_or js r 0 ≡ 0
      empty r l = ap (λ (ys : List ℕ). get_or ys r 0) e ∙ get_or-replicate 32 r 0 0 l

  -- one pair more
  pairs-turn : (k : ℕ) (f : Pairing → Bool) → any f (pairs_of s at (k + 1)) ≡ (any f (pairs_of s at k) || f (pair_at s at k))
  unfolding pairs_of
  pairs-turn k f =
      list_any f (k + 1) (pair_at s at) ∙ any-turn _ k ∙ ap (λ (b : Bool). b || f (pair_at s at k)) (sym (list_any f k (pair_at s at)))

  pub filled_more : (k : ℕ) (js : List ℕ) → (pair_at s at k).senior < 32 → (pair_at s at k).junior < 64 → Filled (pairs_of s at k) js → (js' : List ℕ)
      → js' ≡ with_junior js (pair_at s at k).senior (pair_at s at k).junior → Filled (pairs_of s at (k + 1)) js'
  filled_more k js l m f js' e =
      record {
        long = ap length e ∙ length-set js _ _ ∙ f.long;
        fit = λ r n. rw e (put-fits js _ _ within r (f.fit r n));
        are = record {
          at = λ r q n.
              ap (λ (y : List ℕ). has (get_or y r 0) q) e
              ∙ put_has js _ _ within (f.fit _ l) m r q
              ∙ ap (λ (b : Bool). b || joins r q (pair_at s at k)) (f.are.at r q n)
              ∙ sym (pairs-turn k (joins r q));
        };
      }
    where
      within : (pair_at s at k).senior < length js
      within = omega (arith, f.long)
