-- When a record holds: its dates first, then its pairs.
--     dates-are                                  its dates
--     span_at, span-is, pairs-yes, pairs-no       its pairs, one after the other
--     holds_parts, holds-in, holds-out           both
-- Assumes nothing.
use Prim.Native.Nat.{ℕ, ◌+◌, ◌%◌, ◌≤◌, ◌<◌}
use mathlib.Core.Path.{◌≡◌, refl, sym, ap, ap₂, ◌∙◌}
use mathlib.Core.Bool.{Bool, true, false, ◌&&◌}
use mathlib.Core.List.{List}
use native.Mathlib.Nat.{le_antisymm}
use Rattle.ground.specs.Believed.Search.{any_below}
use Rattle.ground.proofs.SearchLaws.{any-stop, list_any}
use Rattle.minutes.specs.Believed.Minutes.{within, in_phase}
use Rattle.hours.specs.Believed.Hours.{Pair, Hours, holds}
use Rattle.hours.specs.Believed.HoursBytes.{offset_at, length_at, pair_at, begin_at, end_at, pairs_at, hours_at}
use Rattle.hours.specs.Inside.{dates_hold, pairs_hold}

module _ (s : List ℕ) (at : ℕ) where
  pub dates-are : (t b e : ℕ) (r : Bool) → b ≡ begin_at s at → e ≡ end_at s at → r ≡ within b e t → r ≡ dates_hold t (hours_at s at)
  unfolding dates_hold
  dates-are t b e r eb ee er = rw (← eb, ← ee) er

  -- pair j at phase x
  abbrev pub span_at : ℕ → ℕ → Bool
  span_at x j = within (offset_at s (at + 10) j) (offset_at s (at + 10) j + length_at s (at + 10) j) x

  module _ (x n : ℕ) (count : n ≡ pairs_at s at) where
    pairs_below : pairs_hold x (hours_at s at) ≡ any_below n (span_at x)
    unfolding pairs_hold
    pairs_below =
        list_any (λ (p : Pair). within p.offset (p.offset + p.length) x) (pairs_at s at) (pair_at s (at + 10))
        ∙ ap (λ (m : ℕ). any_below m (span_at x)) (sym count)

    pub span-is : (j o l : ℕ) (r : Bool) → o ≡ offset_at s (at + 10) j → l ≡ length_at s (at + 10) j → r ≡ within o (o + l) x → span_at x j ≡ r
    span-is j o l r eo el er = sym (rw (← eo, ← el) er)

    pub pairs-yes : (j : ℕ) → j < n → span_at x j ≡ true → true ≡ pairs_hold x (hours_at s at)
    pairs-yes j l e = sym (pairs_below ∙ any-stop _ n j l e)

    pub pairs-no : (j : ℕ) → j ≤ n → n ≤ j → any_below j (span_at x) ≡ false → false ≡ pairs_hold x (hours_at s at)
    pairs-no j l m e = sym (pairs_below ∙ ap (λ (k : ℕ). any_below k (span_at x)) (le_antisymm m l) ∙ e)

module _ (c : ℕ) (h : Hours) (t : ℕ) where
  pub holds_parts : holds c h t ≡ (dates_hold t h && pairs_hold (t % c) h)
  unfolding holds dates_hold pairs_hold in_phase
  holds_parts = refl

  module _ (d : Bool) (ed : d ≡ dates_hold t h) where
    pub holds-in : d ≡ true → (x : ℕ) (r : Bool) → x ≡ t % c → r ≡ pairs_hold x h → r ≡ holds c h t
    holds-in e x r ex er = er ∙ sym (holds_parts ∙ ap₂ (λ (b : Bool) (y : ℕ). b && pairs_hold y h) (sym ed ∙ e) (sym ex))

    pub holds-out : d ≡ false → false ≡ holds c h t
    holds-out e = sym (holds_parts ∙ ap (λ (b : Bool). b && pairs_hold (t % c) h) (sym ed ∙ e))
