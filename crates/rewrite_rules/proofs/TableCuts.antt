-- Laws of values that are sorted and without repeats, and of the gaps between neighbours.
--     sort-all, sort-length                  what holds of all values; how many
--     gaps-fit, gaps-apart, gaps-length      each gap from a value to a greater one; each before the next; how many
--     gaps_from-low                           none begins before the first value
--     rising-above, rising-later             the same of an array of which some values rise, by index
-- Assumes nothing.
use Rattle.ground.proofs.ListLaws.{Pairwise}
use Prim.Native.Nat.{ℕ, zero, suc, ◌+◌, ◌-◌, ◌≤◌, ◌<◌}
use mathlib.Core.Path.{◌≡◌, refl, sym, ap, ◌∙◌, subst}
use mathlib.Core.List.{List, [], ◌∷◌}
use native.Mathlib.Numerals.{add-one}
use native.Mathlib.Omega.{arith}
use lib.ListN.{length, get_or, take, drop}
use lib.Seq.{slice_empty, slice-cons}
use Rattle.ground.specs.Believed.Sequence.{All}
use Rattle.rewrite_rules.proofs.CutLaws.{Above, Sorted, by_order}
use Rattle.rewrite_rules.specs.Believed.Cuts.{Gap, insert_cut, sort_into, gaps_from, gaps}

insert_all : (P : ℕ → Type 0) (x : ℕ) (l : List ℕ) → P x → All P l → All P (insert_cut x l)
unfolding insert_cut
insert_all P x [] p q = (p, tt)
insert_all P x (y ∷ l) p q =
    by_order (All P) x y _ _ _ (λ h. (p, q)) (λ h. q) (λ h. (q.0, insert_all P x l p q.1))

insert-length : (x : ℕ) (l : List ℕ) → length (insert_cut x l) ≤ suc (length l)
unfolding insert_cut
insert-length x [] = omega arith
insert-length x (y ∷ l) =
    by_order (λ (q : List ℕ). length q ≤ suc (suc (length l))) x y _ _ _ (λ k. omega arith) (λ k. omega arith) (λ k. omega (arith, insert-length x l))

pub sort-all : (P : ℕ → Type 0) (sorted l : List ℕ) → All P sorted → All P l → All P (sort_into sorted l)
unfolding sort_into
sort-all P sorted [] p q = p
sort-all P sorted (x ∷ l) p q = sort-all P (insert_cut x sorted) l (insert_all P x sorted q.0 p) q.1

pub sort-length : (sorted l : List ℕ) → length (sort_into sorted l) ≤ length sorted + length l
unfolding sort_into
sort-length sorted [] = omega arith
sort-length sorted (x ∷ l) = omega (arith, sort-length (insert_cut x sorted) l, insert-length x sorted)

-- from a value to a greater one, which is at most `top`
abbrev pub Fits : ℕ → Gap → Type 0
Fits top g = (g.low < g.high) × (g.high ≤ top)

-- gap g ends before gap h begins
abbrev pub Apart : Gap → Gap → Type 0
Apart g h = g.high ≤ h.low

gaps_from-fit : (top a : ℕ) (l : List ℕ) → Above a l → All (λ (x : ℕ). x ≤ top) l → All (Fits top) (gaps_from a l)
unfolding gaps_from
gaps_from-fit top a [] s p = tt
gaps_from-fit top a (x ∷ l) s p = ((s.0, p.0), gaps_from-fit top x l s.1 p.1)

pub gaps_from-low : (b a : ℕ) (l : List ℕ) → b ≤ a → Above a l → All (λ (g : Gap). b ≤ g.low) (gaps_from a l)
unfolding gaps_from
gaps_from-low b a [] h s = tt
gaps_from-low b a (x ∷ l) h s = (h, gaps_from-low b x l (omega (arith, s.0)) s.1)

gaps_from-apart : (a : ℕ) (l : List ℕ) → Above a l → Pairwise Apart (gaps_from a l)
unfolding gaps_from
gaps_from-apart a [] s = tt
gaps_from-apart a (x ∷ l) s = (gaps_from-low x x l (omega arith) s.1, gaps_from-apart x l s.1)

gaps_from-length : (a : ℕ) (l : List ℕ) → length (gaps_from a l) ≡ length l
unfolding gaps_from
gaps_from-length a [] = refl
gaps_from-length a (x ∷ l) = ap suc (gaps_from-length x l)

-- an array of which n + 1 values rise: those past the value at i, and the gaps from the next value on
rises-past : (m i n : ℕ) (a : List ℕ) → m + i ≡ n → n < length a → ((k : ℕ) → k < n → get_or a k 0 < get_or a (k + 1) 0)
    → Above (get_or a i 0) (drop (suc i) (take (suc n) a))
rises-past zero i n a e h r =
    let q : n ≡ i = omega arith in
    subst (Above (get_or a i 0)) (sym (ap (λ (k : ℕ). drop (suc i) (take (suc k) a)) q ∙ slice_empty (suc i) a)) tt
rises-past (suc m) i n a e h r =
    subst (Above (get_or a i 0)) (sym (slice-cons (suc i) (suc n) a 0 (omega arith) h))
    (subst (λ (k : ℕ). get_or a i 0 < get_or a k 0) (add-one i) (r i (omega arith)), rises-past m (suc i) n a (omega arith) h r)

pub rising-above : (i n : ℕ) (a : List ℕ) → i ≤ n → n < length a → ((k : ℕ) → k < n → get_or a k 0 < get_or a (k + 1) 0)
    → Above (get_or a i 0) (drop (suc i) (take (suc n) a))
rising-above i n a l = rises-past (n - i) i n a (omega arith)

pub rising-later : (i n : ℕ) (a : List ℕ) → i < n → n < length a → ((k : ℕ) → k < n → get_or a k 0 < get_or a (k + 1) 0)
    → All (λ (g : Gap). get_or a i 0 < g.low) (gaps_from (get_or a (i + 1) 0) (drop (suc (i + 1)) (take (suc n) a)))
rising-later i n a l h r =
    gaps_from-low (suc (get_or a i 0)) (get_or a (i + 1) 0) (drop (suc (i + 1)) (take (suc n) a)) (r i l) (rising-above (i + 1) n a (omega arith) h r)

pub gaps-fit : (top : ℕ) (l : List ℕ) → Sorted l → All (λ (x : ℕ). x ≤ top) l → All (Fits top) (gaps l)
unfolding gaps
gaps-fit top [] s p = tt
gaps-fit top (x ∷ l) s p = gaps_from-fit top x l s p.1

pub gaps-apart : (l : List ℕ) → Sorted l → Pairwise Apart (gaps l)
unfolding gaps
gaps-apart [] s = tt
gaps-apart (x ∷ l) s = gaps_from-apart x l s

pub gaps-length : (l : List ℕ) → length (gaps l) ≡ length l - 1
unfolding gaps
gaps-length [] = refl
gaps-length (x ∷ l) = omega (arith, gaps_from-length x l)
