-- A record's number joins the sets of the cells in which its pairs hold.
--     cleared                                        empty sets
--     Filling, fill_stop                             the cells of one pair
--     record-well                                    what is known of a record
--     Pairing, pair-start, pair-ready, pair-more     the pairs of one record, one after the other
--     pairs-joined                                   all of them
--     in-cells-none, in-cells-more                   the records so far, with one more
-- Assumes nothing.
use Prim.Native.Nat.{ℕ, zero, suc, ◌+◌, ◌≤◌, ◌<◌}
use mathlib.Core.Path.{◌≡◌, refl, sym, ap, ◌∙◌}
use mathlib.Core.Logic.{⊎_elim}
use mathlib.Core.Bool.{Bool, true, false, ◌||◌}
use mathlib.Core.List.{List}
use native.Mathlib.Nat.{not-suc-le-zero, le_of_suc-le-suc, eq-or-lt_of_le, le_antisymm, le_refl}
use native.Mathlib.Numerals.{add-one}
use native.Mathlib.Omega.{arith}
use borrow.Author.Tests.{le-leb, le-ltb}
use lib.Dec.{eqb}
use lib.ListN.{length, get_or, replicate, length-replicate, get_or-replicate}
use Rattle.ground.specs.Believed.Choice.{pick}
use Rattle.ground.specs.Believed.Search.{any_below}
use Rattle.ground.proofs.BoolLaws.{lt-or-le}
use Rattle.ground.proofs.JudgementLaws.{turns-all}
use Rattle.ground.proofs.SearchLaws.{any_none, any-turn, list_any}
use Rattle.bitset.specs.Believed.Sets.{has, insert}
use Rattle.bitset.proofs.SetLaws.{has-insert, set_of-none, set_of-same, set_of-more}
use Rattle.minutes.specs.Believed.Minutes.{within}
use Rattle.hours.specs.Believed.Hours.{Pair}
use Rattle.hours.specs.Believed.HoursBytes.{offset_at, length_at, pair_at, pairs_at, hours_at, record_at, pairs_before}
use Rattle.hours.specs.Believed.HoursRefusals.{earliest}
use Rattle.hours.specs.Inside.{pairs_hold, records_that}
use Rattle.hours.proofs.HoldsLaws.{span_at}
use Rattle.hours.proofs.JudgeLaws.{HoursFine}
use Rattle.hours.proofs.PairLaws.{earliest-more}
use Rattle.hours_reader.proofs.RecordLaws.{pair-fine}
use Rattle.rota.specs.Believed.RotaBytes.{header_length, cycle_of, hours_of}
use Rattle.rota.specs.Believed.RotaRefusals.{rota_judged}
use Rattle.rewrite_cuts.proofs.RecordLaws.{walk_fine}
use Rattle.rewrite_grid.specs.Grid.{Rise, InCells, Joined}

-- sets that are filled with 0
pub cleared : (n : ℕ) (sets : List ℕ) → sets ≡ replicate n 0 → (j : ℕ) → j < length sets → get_or sets j 0 ≡ 0
cleared n sets e j h = ap (λ (l : List ℕ). get_or l j 0) e ∙ get_or-replicate n j 0 0 (omega (arith, ap length e, length-replicate {A = ℕ} n 0))

-- ---- the cells of one pair
span-after : (o e x : ℕ) → o ≤ e → e ≤ x → within o e x ≡ false
span-after o e x h l = rw (le-leb o x (omega arith), le-ltb x e l) refl

-- a set, with k where the test says so
abbrev joined : Bool → ℕ → ℕ → ℕ
joined b x k = pick b (insert x k) x

-- the first i cells are done and lie before e, and the sets of the others are as they were
pub record Filling (cells : List ℕ) (n o e k : ℕ) (sets₀ sets : List ℕ) (i : ℕ) : Type 0 where
  pub below : i ≤ n
  pub long : length sets ≡ length sets₀
  pub done : (j : ℕ) → j < i → get_or sets j 0 ≡ joined (within o e (get_or cells j 0)) (get_or sets₀ j 0) k
  pub rest : (j : ℕ) → i ≤ j → get_or sets j 0 ≡ get_or sets₀ j 0
  pub behind : (j : ℕ) → j < i → get_or cells j 0 < e

module _ {cells : List ℕ} {n o e k : ℕ} {sets₀ sets : List ℕ} {i : ℕ} (w : Filling cells n o e k sets₀ sets i) where
  -- a cell at e or past it, and so are those after it
  pub fill_stop : Rise cells n → o ≤ e → e ≤ get_or cells i 0 → Joined cells n k (within o e) sets₀ sets
  fill_stop rise h l = record { each = λ j m. ⊎_elim (λ (q : j < i). w.done j q) (λ (q : i ≤ j). past j m q) (lt-or-le j i) }
    where
      up : (j : ℕ) → i ≤ j → j < n → get_or cells i 0 ≤ get_or cells j 0
      up zero q m = let z : i ≡ 0 = omega arith in rw z (le_refl _)
      up (suc j) q m =
          ⊎_elim
          (λ (z : i ≡ suc j). rw z (le_refl _))
          (λ (z : i < suc j). omega (arith, up j (le_of_suc-le-suc z) (omega arith), rw add-one at (rise j (omega arith))))
          (eq-or-lt_of_le q)

      past : (j : ℕ) → j < n → i ≤ j → get_or sets j 0 ≡ joined (within o e (get_or cells j 0)) (get_or sets₀ j 0) k
      past j m q = w.rest j q ∙ sym (ap (λ (b : Bool). joined b (get_or sets₀ j 0) k) (span-after o e (get_or cells j 0) h (omega (arith, up j q m))))

-- ---- one test, then another
twice : (x k : ℕ) → insert (insert x k) k ≡ insert x k
unfolding insert
twice x k = set_of-same 64 _ _ (λ j l. ap (λ (b : Bool). b || eqb j k) (has-insert x k j l) ∙ again (has x j) (eqb j k))
  where
    again : (a b : Bool) → ((a || b) || b) ≡ (a || b)
    again true b = refl
    again false true = refl
    again false false = refl

joined-twice : (a b : Bool) (x k : ℕ) → joined b (joined a x k) k ≡ joined (a || b) x k
joined-twice true true x k = twice x k
joined-twice true false x k = refl
joined-twice false b x k = refl

-- ---- the pairs of one record
pub record-well : (s : List ℕ) (k at : ℕ) → rota_judged s ≡ 0 → k < hours_of s → at ≡ record_at s (header_length s) k → HoursFine s (cycle_of s) at (pairs_before s (header_length s) k)
record-well s k at ok l e = walk_fine (record { below = omega arith; here = e }) ok refl l

-- q of its pairs are done, and the cells before `from` lie before the next
pub record Pairing (s : List ℕ) (at : ℕ) (cells : List ℕ) (n k : ℕ) (sets₀ sets : List ℕ) (from q : ℕ) : Type 0 where
  pub below : q ≤ pairs_at s at
  pub long : length sets ≡ length sets₀
  pub most : from ≤ n
  pub behind : (j : ℕ) → j < from → get_or cells j 0 < earliest s (at + 10) q
  pub each : (j : ℕ) → j < n → get_or sets j 0 ≡ joined (any_below q (span_at s at (get_or cells j 0))) (get_or sets₀ j 0) k

pub pair-start : (s : List ℕ) (at : ℕ) (cells : List ℕ) (n k : ℕ) (sets : List ℕ) → Pairing s at cells n k sets sets 0 0
pair-start s at cells n k sets =
    record {
      below = omega arith;
      long = refl;
      most = omega arith;
      behind = λ j m. absurd (not-suc-le-zero m);
      each = λ j m. sym (ap (λ (b : Bool). joined b (get_or sets j 0) k) (any_none _));
    }

module _ {s : List ℕ} {at : ℕ} {cells : List ℕ} {n k : ℕ} {sets₀ sets : List ℕ} {from q : ℕ} (w : Pairing s at cells n k sets₀ sets from q) where
  module _ (o l : ℕ) (eo : o ≡ offset_at s (at + 10) q) (el : l ≡ length_at s (at + 10) q) where
    pub pair-ready : {c total : ℕ} → HoursFine s c at total → q < pairs_at s at → (j : ℕ) → j < from → get_or cells j 0 < o
    pair-ready {c} {total} f h j m =
        omega (arith, w.behind j m, (pair-fine s c (at + 10) q (turns-all _ _ q h f.pairs)).starts)

    pub pair-more : q < pairs_at s at → {after : List ℕ} {r : ℕ} → length after ≡ length sets → Joined cells n k (within o (o + l)) sets after × (r ≤ n)
        × ((j : ℕ) → j < r → get_or cells j 0 < o + l) → Pairing s at cells n k sets₀ after r (q + 1)
    pair-more h {after} {r} long v =
        record {
          below = omega arith;
          long = long ∙ w.long;
          most = v.1;
          behind = λ j m. omega (arith, v.2 j m, earliest-more s (at + 10) q o l eo el);
          each = each;
        }
      where
        each : (j : ℕ) → j < n → get_or after j 0 ≡ joined (any_below (q + 1) (span_at s at (get_or cells j 0))) (get_or sets₀ j 0) k
        each j m =
            v.0.each j m
            ∙ ap (λ (x : ℕ). joined (within o (o + l) (get_or cells j 0)) x k) (w.each j m)
            ∙ joined-twice (any_below q (span_at s at (get_or cells j 0))) (within o (o + l) (get_or cells j 0)) (get_or sets₀ j 0) k
            ∙ ap (λ (b : Bool). joined b (get_or sets₀ j 0) k) same
          where
            same : (any_below q (span_at s at (get_or cells j 0)) || within o (o + l) (get_or cells j 0)) ≡ any_below (q + 1) (span_at s at (get_or cells j 0))
            same = rw (eo, el) (sym (any-turn (span_at s at (get_or cells j 0)) q))

  pub pairs-joined : pairs_at s at ≤ q → Joined cells n k (λ x. pairs_hold x (hours_at s at)) sets₀ sets
  unfolding pairs_hold
  pairs-joined h =
      record {
        each = λ j m.
            w.each j m
            ∙ ap (λ (b : Bool). joined b (get_or sets₀ j 0) k)
            (ap (λ (i : ℕ). any_below i (span_at s at (get_or cells j 0))) (le_antisymm w.below h)
            ∙ sym (list_any (λ (p : Pair). within p.offset (p.offset + p.length) (get_or cells j 0)) (pairs_at s at) (pair_at s (at + 10))));
      }

-- ---- the records
module _ (s : List ℕ) (cells : List ℕ) (n : ℕ) where
  pub in-cells-none : (sets : List ℕ) → ((j : ℕ) → j < n → get_or sets j 0 ≡ 0) → InCells s 0 cells n sets
  unfolding records_that
  in-cells-none sets z = record { each = λ j m. z j m ∙ set_of-none _ }

  pub in-cells-more : {k at : ℕ} {before after : List ℕ} → k < 64 → at ≡ record_at s (header_length s) k → InCells s k cells n before
      → Joined cells n k (λ x. pairs_hold x (hours_at s at)) before after → InCells s (k + 1) cells n after
  unfolding records_that
  in-cells-more {k} {at} {before} {after} l here p v = record { each = each }
    where
      each : (j : ℕ) → j < n → get_or after j 0 ≡ records_that s (header_length s) (k + 1) (pairs_hold (get_or cells j 0))
      each j m =
          v.each j m ∙ ap (λ (x : ℕ). joined (pairs_hold (get_or cells j 0) (hours_at s at)) x k) (p.each j m)
          ∙ ap (λ (i : ℕ). joined (pairs_hold (get_or cells j 0) (hours_at s i)) (records_that s (header_length s) k (pairs_hold (get_or cells j 0))) k) here
          ∙ sym (set_of-more k (λ i. pairs_hold (get_or cells j 0) (hours_at s (record_at s (header_length s) i))) l)
