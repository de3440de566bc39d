-- An array that holds cuts: its neighbours are the gaps between them.
--     gaps-at, gap-in           the gaps by index
--     cuts_are, added-cuts      in order and at most a bound, as sorted values are
-- Assumes nothing.
use Prim.Native.Nat.{ℕ, zero, suc, ◌+◌, ◌-◌, ◌≤◌, ◌<◌}
use mathlib.Core.Path.{◌≡◌, refl, sym, ap, ◌∙◌}
use mathlib.Core.List.Memᴰ
use mathlib.Core.List.{List, [], ◌∷◌, Memᴰ}
use native.Mathlib.Nat.{not-suc-le-zero}
use native.Mathlib.Numerals.{add-one}
use native.Mathlib.Omega.{arith}
use lib.ListN.{length, get_or, take}
use lib.Seq.{get_or-take, length-take-le}
use Rattle.ground.specs.Believed.Sequence.{list_of}
use Rattle.ground.proofs.ListLaws.{all_in, at_in}
use Rattle.ground.proofs.SequenceLaws.{list_of-length, list_of-cons, get-list_of}
use Rattle.rewrite_rules.specs.Believed.Cuts.{Gap, sort_into, gaps_from, gaps}
use Rattle.rewrite_rules.proofs.CutLaws.{ordered}
use Rattle.rewrite_rules.proofs.TableCuts.{sort-all}
use Rattle.rewrite_rules.proofs.ValueLaws.{Upto}
use Rattle.rewrite_cuts.specs.Added.{Added}
use Rattle.rewrite_grid.specs.Grid.{gap_at, Cuts}

abbrev next : List ℕ → ℕ → Gap
next l k = record { low = get_or l k 0; high = get_or l (suc k) 0 }

next-is : (l : List ℕ) → next l ≡ gap_at l
next-is l = sym (λ i k. record { low = get_or l k 0; high = get_or l (add-one k i) 0 })

neighbours : (n : ℕ) (a : List ℕ) → n < length a → gaps (take (suc n) a) ≡ list_of n (next a)
unfolding gaps gaps_from list_of
neighbours n [] h = absurd (not-suc-le-zero h)
neighbours zero (x ∷ a) h = refl
neighbours (suc n) (x ∷ []) h = absurd (omega arith)
neighbours (suc n) (x ∷ y ∷ a) h =
    ap (λ (l : List Gap). record { low = x; high = y } ∷ l) (neighbours n (y ∷ a) (omega arith)) ∙ sym (list_of-cons n (next (x ∷ y ∷ a)))

module _ (l a : List ℕ) (n : ℕ) (long : n < length a) (are : take (n + 1) a ≡ l) where
  pub gaps-at : gaps l ≡ list_of n (gap_at a)
  gaps-at = ap gaps (sym are ∙ ap (λ (k : ℕ). take k a) (add-one n)) ∙ neighbours n a long ∙ ap (list_of n) (next-is a)

  pub gap-in : (k : ℕ) → k < n → Memᴰ (gap_at a k) (gaps l)
  gap-in k h =
      rw gaps-at
      (Memᴰ.cast (sym (get-list_of n (gap_at a) (gap_at a k) k h)) (at_in (list_of n (gap_at a)) k (gap_at a k) (rw list_of-length h)))

pub cuts_are : (vs a : List ℕ) (n top : ℕ) → Upto top vs → n < length a → take (n + 1) a ≡ sort_into [] vs → Cuts (sort_into [] vs) a n top
cuts_are vs a n top up long are =
    record { are = are; long = long; rise = λ k h. ordered vs (gap_at a k) (gap-in _ a n long are k h); most = most }
  where
    size : length (sort_into [] vs) ≡ n + 1
    size = ap length (sym are) ∙ length-take-le (n + 1) a (omega arith)

    most : (k : ℕ) → k ≤ n → get_or a k 0 ≤ top
    most k h =
        rw (sym (get_or-take (n + 1) a k 0 (omega arith)) ∙ ap (λ (l : List ℕ). get_or l k 0) are)
        (all_in (λ (x : ℕ). x ≤ top) (sort_into [] vs) (sort-all (λ (x : ℕ). x ≤ top) [] vs tt up) (at_in (sort_into [] vs) k 0 (omega (arith, size))))

-- the array after the values are added
pub added-cuts : {vs a b : List ℕ} {m : ℕ} (top : ℕ) → Added a 0 vs b m → Upto top vs → 0 < length vs → m ≤ length b → Cuts (sort_into [] vs) b (m - 1) top
added-cuts {vs} {a} {b} {m} top p up some room =
    let q : 0 < m = p.some some in
    let e : m - 1 + 1 ≡ m = omega arith in
    cuts_are vs b (m - 1) top up (omega arith) (rw e p.sorted)
