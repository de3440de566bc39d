-- How far a record that holds at a minute goes on holding.
--     halved_none .. halved-all            the search for the first pair that ends after phase x
--     reach-off, reach-on                  the first pair that ends after x decides
--     past-all, reach-past                 there is none
--     span-out, span-gap, span-in, span-there          out of the record's dates, between its pairs, and in both
--     spans-none, spans-more, spans-off, spans-past   the records so far, with one more that counts and holds, one that does not hold, and one that does not count
--     spans_all                            all of them
--     passed-ready, record-ready           a record of accepted records
-- Assumes nothing.
use Prim.Native.Nat.{ℕ, zero, suc, ◌+◌, ◌-◌, ◌*◌, ◌%◌, ◌≤◌, ◌<◌, min}
use mathlib.Core.Path.{◌≡◌, refl, sym, ap, ◌∙◌, subst}
use mathlib.Core.Logic.{⊎_elim, ◌⊎◌, inl, inr}
use mathlib.Core.Bool.{Bool, true, false}
use mathlib.Core.List.{List}
use native.Mathlib.Nat.{le_refl, eq-or-lt_of_le, le_of_suc-le-suc}
use native.Mathlib.Omega.{arith}
use borrow.Author.Tests.{lt-ltb, le-ltb, le-leb, lt-leb, leb-true, ltb-true}
use Rattle.ground.specs.Believed.Judgement.{in_turn}
use Rattle.ground.proofs.BoolLaws.{lt-or-le, and_yes, clash}
use Rattle.ground.proofs.SearchLaws.{any-none-of}
use Rattle.bitset.specs.Believed.Sets.{has}
use Rattle.bitset.proofs.SetLaws.{has-below}
use Rattle.minutes.specs.Believed.Minutes.{E}
use Rattle.minutes.specs.Lasting.{Lasting}
use Rattle.minutes.proofs.LastingLaws.{phase-on, phase-turned}
use Rattle.hours.specs.Believed.Hours.{Hours, holds}
use Rattle.hours.specs.Believed.HoursBytes.{offset_at, length_at, pair_at, pairs_at, hours_at, pairs_before}
use Rattle.hours.specs.Believed.HoursRefusals.{earliest, record_judged}
use Rattle.hours.specs.HoursWell.{PairWell}
use Rattle.hours.specs.Inside.{dates_hold, pairs_hold, records_that, holding}
use Rattle.hours.proofs.HoldsLaws.{span_at, pairs-yes, pairs-no, holds_parts, holds-in, holds-out}
use Rattle.hours_reader.proofs.RecordLaws.{pairs-each, hours-well}
use Rattle.hours_reader.proofs.WalkLaws.{Passed, passed_none, passed-more, passed-end, passed-fine}
use Rattle.hours_times.specs.declared.Spans.{Spans}
use Rattle.std.specs.Prelude.{Option, None, Some, IfNone, IfSome, is_some}
use Rattle.hours_times.specs.Spans.{RecordReady, FirstEnding, PhaseSpan, RecordSpan, RecordsSpan}

-- ---- pairs
-- of the n pairs, those before `low` end by phase x, and those from `high` on after it
pub record Halved (s : List ℕ) (at x n low high : ℕ) : Type 0 where
  pub between : low ≤ high
  pub most : high ≤ n
  pub behind : (i : ℕ) → i < low → offset_at s (at + 10) i + length_at s (at + 10) i ≤ x
  pub ahead : high < n → x < offset_at s (at + 10) high + length_at s (at + 10) high

pub halved_none : (s : List ℕ) (at x n : ℕ) → Halved s at x n 0 n
halved_none s at x n = record { between = omega arith; most = le_refl n; behind = λ i l. absurd (omega arith); ahead = λ l. absurd (omega arith) }

pub halved-all : {s : List ℕ} {at x n low high : ℕ} → Halved s at x n low high → high ≤ low → FirstEnding s at x n low
halved-all {s} {at} {x} {n} {low} {high} w l =
    let e : high ≡ low = omega (arith, w.between) in
    record { below = omega (arith, w.most); behind = w.behind; ends = subst (λ (j : ℕ). j < n → x < offset_at s (at + 10) j + length_at s (at + 10) j) e w.ahead }

module _ (s : List ℕ) (c at : ℕ) (w : RecordReady s c at) where
  pair-well : (i : ℕ) → i < pairs_at s at → PairWell c (earliest s (at + 10) i) (pair_at s (at + 10) i)
  unfolding earliest
  pair-well = pairs-each c _ _ (earliest s (at + 10)) (λ k. refl) w.well.pairs

  -- offsets rise
  rising : (j i : ℕ) → j ≤ i → i < pairs_at s at → offset_at s (at + 10) j ≤ offset_at s (at + 10) i
  unfolding earliest
  rising j zero l m = let e : j ≡ 0 = omega arith in rw e (le_refl _)
  rising j (suc i) l m =
      ⊎_elim
      (λ (e : j ≡ suc i). rw e (le_refl _))
      (λ (k : j < suc i). omega (arith, rising j i (le_of_suc-le-suc k) (omega arith), (pair-well (suc i) m).starts))
      (eq-or-lt_of_le l)

  -- a phase that no pair has
  clear : (y : ℕ) → ((i : ℕ) → i < pairs_at s at → (y < offset_at s (at + 10) i) ⊎ (offset_at s (at + 10) i + length_at s (at + 10) i ≤ y))
      → false ≡ pairs_hold y (hours_at s at)
  clear y h = pairs-no s at y (pairs_at s at) refl (pairs_at s at) (le_refl _) (le_refl _) (any-none-of _ _ (λ i l. out i (h i l)))
    where
      out : (i : ℕ) → (y < offset_at s (at + 10) i) ⊎ (offset_at s (at + 10) i + length_at s (at + 10) i ≤ y) → span_at s at y i ≡ false
      out i (inl l) = rw (lt-leb _ _ l) refl
      out i (inr l) = rw (le-ltb _ _ l, le-leb (offset_at s (at + 10) i) y (omega arith)) refl

  -- and so do their ends
  ends-rise : (j i : ℕ) → j ≤ i → i < pairs_at s at
      → offset_at s (at + 10) j + length_at s (at + 10) j ≤ offset_at s (at + 10) i + length_at s (at + 10) i
  unfolding earliest
  ends-rise j zero l m = let e : j ≡ 0 = omega arith in rw e (le_refl _)
  ends-rise j (suc i) l m =
      ⊎_elim
      (λ (e : j ≡ suc i). rw e (le_refl _))
      (λ (k : j < suc i). omega (arith, ends-rise j i (le_of_suc-le-suc k) (omega arith), (pair-well (suc i) m).starts))
      (eq-or-lt_of_le l)

  -- pair j, between the two, ends after x or by it
  module _ {x n low high : ℕ} (v : Halved s at x n low high) (count : n ≡ pairs_at s at) (j o e : ℕ) (a : low ≤ j) (b : j < high)
      (eo : o ≡ offset_at s (at + 10) j) (ee : e ≡ o + length_at s (at + 10) j) where
    pub halved-low : x < e → Halved s at x n low j
    halved-low l = record { between = a; most = omega (arith, v.most); behind = v.behind; ahead = λ z. omega (arith, eo, ee) }

    pub halved-high : e ≤ x → Halved s at x n (j + 1) high
    halved-high l =
        record {
          between = omega arith;
          most = v.most;
          behind = λ i k. omega (arith, ends-rise i j (omega arith) (omega (arith, v.most)), eo, ee);
          ahead = v.ahead;
        }

  module _ (x j : ℕ) where
    module _ (n : ℕ) (count : n ≡ pairs_at s at) (b : FirstEnding s at x n j) where
      -- pair j begins after x
      pub reach-off : (o : ℕ) → j < n → o ≡ offset_at s (at + 10) j → x < o → PhaseSpan c (hours_at s at) x false o
      reach-off o l eo m =
          record {
            after = m;
            in-cycle = omega (arith, (pair-well j (omega arith)).ends, eo);
            is = λ y p q.
                clear y
                (λ i k. ⊎_elim
                (λ (a : i < j). inr (omega (arith, b.behind i a)))
                (λ (a : j ≤ i). inl (omega (arith, rising j i a k, eo)))
                (lt-or-le i j));
          }

      -- x is in pair j
      pub reach-on : (o e : ℕ) → j < n → o ≡ offset_at s (at + 10) j → o ≤ x → e ≡ o + length_at s (at + 10) j
          → PhaseSpan c (hours_at s at) x true e
      reach-on o e l eo m ee =
          record {
            after = omega (arith, b.ends l, eo, ee);
            in-cycle = omega (arith, (pair-well j (omega arith)).ends, eo, ee);
            is = λ y p q.
                pairs-yes s at y n count j l
                (rw (le-leb (offset_at s (at + 10) j) y (omega (arith, eo)), lt-ltb y (offset_at s (at + 10) j + length_at s (at + 10) j) (omega (arith, eo, ee))) refl);
          }

      -- x is past the last pair
      pub past-all : (y : ℕ) → x ≤ y → n ≤ j → false ≡ pairs_hold y (hours_at s at)
      past-all y p m = clear y (λ i k. inr (omega (arith, b.behind i (omega arith))))

      pub reach-past : x < c → n ≤ j → PhaseSpan c (hours_at s at) x false c
      reach-past l m = record { after = l; in-cycle = le_refl c; is = λ y p q. past-all y p m }

-- ---- dates
module _ (c : ℕ) (h : Hours) (t : ℕ) where
  -- inside its dates the pairs of a record decide
  inside : (v : ℕ) → h.begin ≤ v → v < h.end → holds c h v ≡ pairs_hold (v % c) h
  unfolding dates_hold
  inside v l m = holds_parts c h v ∙ rw (le-leb _ _ l, lt-ltb _ _ m) refl

  dates-in : dates_hold t h ≡ true → (h.begin ≤ t) × (t < h.end)
  unfolding dates_hold
  dates-in d = let p = and_yes _ _ d in (leb-true _ _ p.0, ltb-true _ _ p.1)

  -- it does not hold, by its dates or by its pairs
  pub span-out : {d : Bool} → d ≡ dates_hold t h → d ≡ false → holds c h t ≡ false
  span-out ed e = sym (holds-out c h t _ ed e)

  pub span-gap : {d : Bool} (x : ℕ) → x ≡ t % c → d ≡ dates_hold t h → d ≡ true → pairs_hold x h ≡ false → holds c h t ≡ false
  span-gap x ex ed e z = sym (holds-in c h t _ ed e x false ex (sym z))

  module _ (x stop : ℕ) (ex : x ≡ t % c) (p : PhaseSpan c h x true stop) where
    -- it holds: to where its pair ends, and its dates
    pub span-in : {d : Bool} (until era : ℕ) → d ≡ dates_hold t h → d ≡ true → 0 < c → h.end ≤ E → t < until → until ≤ t + (stop - x)
        → era ≡ h.end → RecordSpan c h t true until era
    span-in until era ed e pos most l m ee =
        let w = dates-in (sym ed ∙ e) in
        record {
          is = holds-in c h t _ ed e x true ex (p.is x (le_refl x) p.after);
          lasts = λ o.
              record {
                each = λ v k a b d.
                    inside (v + k * c) (omega (arith, w.0)) (omega (arith, ee))
                    ∙ ap (λ (y : ℕ). pairs_hold y h) (phase-turned c v k pos)
                    ∙ same v a b;
              };
          after = l;
          longer = omega (arith, w.1);
          era-most = omega (arith, most);
        }
      where
        same : (v : ℕ) → t ≤ v → v < until → pairs_hold (v % c) h ≡ true
        same v a b =
            let on-time : v % c ≡ t % c + (v - t) = phase-on c t v a (omega (arith, p.in-cycle)) in
            sym (p.is (v % c) (omega arith) (omega arith))

  -- whether there is a span is whether it holds
  pub span-there : (r : Option Spans) → IfNone r (holds c h t ≡ false) → IfSome r (λ (q : Spans). RecordSpan c h t true q.until q.era) → is_some r ≡ holds c h t
  span-there None z p = sym z
  span-there (Some q) z p = p.is

-- ---- records
pub passed-ready : {s : List ℕ} {c from h at k : ℕ} → Passed s from h k at → in_turn (record_judged s c from) h ≡ 0 → k < h → RecordReady s c at
passed-ready {s} {c} {from} {h} {at} {k} w a l = let f = passed-fine w c a l in record { within = f.within; well = hours-well s c at (pairs_before s from k) f }

-- the walk is past k of the h records, and knows how far those in `only` that hold do so
pub record Spanned (s : List ℕ) (c from h t only until era at k : ℕ) : Type 0 where
  pub passed : Passed s from h k at
  pub span : RecordsSpan s c from k t only until era

pub spans-none : (s : List ℕ) (c from h t only : ℕ) → t < E → Spanned s c from h t only E E from 0
spans-none s c from h t only l =
    record {
      passed = passed_none s from h;
      span = record { lasts = λ k m. absurd (omega arith); after = l; longer = l; era-most = le_refl E };
    }

module _ {s : List ℕ} {c from h t only until era at k : ℕ} (w : Spanned s c from h t only until era at k) where
  -- record k, and one before it, among one record more
  last : (v : ℕ) → has (holding s c from (k + 1) v) k ≡ holds c (hours_at s at) v
  unfolding holding records_that
  last v = has-below (k + 1) _ k (omega arith) ∙ ap (λ (i : ℕ). holds c (hours_at s i) v) (sym w.passed.here)

  earlier : (i : ℕ) → i < k → (v : ℕ) → has (holding s c from (k + 1) v) i ≡ has (holding s c from k v) i
  unfolding holding records_that
  earlier i l v = has-below (k + 1) _ i (omega arith) ∙ sym (has-below k _ i l)

  -- one record more: no end is later, and record k lasts to there where it counts
  one_more : {until₁ era₁ at₁ : ℕ} → k < h → until₁ ≤ until → era₁ ≤ era → t < until₁ → t < era₁
      → (has only k ≡ true → holds c (hours_at s at) t ≡ true → Lasting (holds c (hours_at s at)) c t until₁ era₁) → at₁ ≡ at + 10 + 4 * pairs_at s at
      → Spanned s c from h t only until₁ era₁ at₁ (k + 1)
  one_more {until₁} {era₁} l mu me a b f ea =
      record {
        passed = passed-more w.passed l ea;
        span =
            record {
              lasts = λ i m o z.
                  ⊎_elim
                  (λ (e : i ≡ k). rw e (of-last (f (rw e at o) (sym (last t) ∙ (rw e at z)))))
                  (λ (q : i < k). of-earlier i q (w.span.lasts i q o (sym (earlier i q t) ∙ z)))
                  (eq-or-lt_of_le (omega arith));
              after = a;
              longer = b;
              era-most = omega (arith, w.span.era-most);
            };
      }
    where
      of-last : Lasting (holds c (hours_at s at)) c t until₁ era₁ → Lasting (λ v. has (holding s c from (k + 1) v) k) c t until₁ era₁
      of-last y = record { each = λ v j a b d. last (v + j * c) ∙ y.each v j a b d }

      of-earlier : (i : ℕ) → i < k → Lasting (λ v. has (holding s c from k v) i) c t until era
          → Lasting (λ v. has (holding s c from (k + 1) v) i) c t until₁ era₁
      of-earlier i m y = record { each = λ v j a b d. earlier i m (v + j * c) ∙ y.each v j a (omega arith) (omega arith) }

  module _ {at₁ : ℕ} (l : k < h) (ea : at₁ ≡ at + 10 + 4 * pairs_at s at) where
    pub spans-more : {on : Bool} {until' era' until₁ era₁ : ℕ} → RecordSpan c (hours_at s at) t on until' era'
        → until₁ ≡ min until until' → era₁ ≡ min era era' → Spanned s c from h t only until₁ era₁ at₁ (k + 1)
    spans-more {on} {until'} {era'} {until₁} {era₁} r eu ee =
        one_more l (omega arith) (omega arith) (omega (arith, w.span.after, r.after)) (omega (arith, w.span.longer, r.longer))
        (λ o z. shorter (r.lasts (r.is ∙ z))) ea
      where
        shorter : Lasting (holds c (hours_at s at)) c t until' era' → Lasting (holds c (hours_at s at)) c t until₁ era₁
        shorter y = record { each = λ v j a b d. y.each v j a (omega arith) (omega arith) }

    -- it does not hold
    pub spans-off : {until₁ era₁ : ℕ} → holds c (hours_at s at) t ≡ false → until₁ ≡ until → era₁ ≡ era → Spanned s c from h t only until₁ era₁ at₁ (k + 1)
    spans-off o eu ee =
        one_more l (omega arith) (omega arith) (omega (arith, w.span.after)) (omega (arith, w.span.longer)) (λ _ z. clash (holds c (hours_at s at) t) z o) ea

    pub spans-past : {until₁ era₁ : ℕ} → has only k ≡ false → until₁ ≡ until → era₁ ≡ era → Spanned s c from h t only until₁ era₁ at₁ (k + 1)
    spans-past o eu ee =
        one_more l (omega arith) (omega arith) (omega (arith, w.span.after)) (omega (arith, w.span.longer)) (λ z. clash (has only k) z o) ea

  pub spans_all : h ≤ k → RecordsSpan s c from h t only until era
  spans_all l = subst (λ (n : ℕ). RecordsSpan s c from n t only until era) (passed-end w.passed l) w.span

  pub record-ready : in_turn (record_judged s c from) h ≡ 0 → k < h → RecordReady s c at
  record-ready = passed-ready w.passed
