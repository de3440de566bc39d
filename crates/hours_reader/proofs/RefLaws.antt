-- References.
-- Assumes nothing.
use Prim.Native.Nat.{ℕ, ◌%◌, ◌≤◌, ◌<◌}
use mathlib.Core.Path.{◌≡◌, refl, sym, ◌∙◌, ap, ap₂}
use mathlib.Core.Bool.{Bool, false}
use native.Mathlib.Omega.{arith}
use borrow.Author.Tests.{leb-false, lt-ltb}
use mathlib.Core.List.{List}
use lib.ListN.{get_or}
use Rattle.ground.proofs.SequenceLaws.{get-list_of}
use Rattle.bitset.specs.Believed.Sets.{has, insert}
use Rattle.bitset.proofs.SetLaws.{has-below, insert-self, insert-other}
use Rattle.minutes.specs.Believed.Minutes.{E}
use Rattle.hours.specs.Believed.Hours.{Hours, holds, never, ref_holds, dangling}
use Rattle.hours.specs.Believed.HoursBytes.{record_at, hours_at, hours_from}
use Rattle.hours.specs.Inside.{records_that, holding, ref_in}
use Rattle.hours.specs.declared.HoursRef.{HoursRef}
use Rattle.hours.specs.declared.HoursRef.TheVariants.{Always, Numbered}

-- a reference that does not dangle and is numbered
pub numbered_below : (h k : ℕ) (r : HoursRef) → r ≡ Numbered k → dangling h r ≡ false → k < h
unfolding dangling
numbered_below h k r e d = leb-false h k (rw e at d)

-- a reference looked up by its number, where always has the number 63
module _ (set h number held : ℕ) (r : HoursRef) (b : Bool) (few : h ≤ 32) (eh : held ≡ insert set 63) (eb : b ≡ has held (number % 64)) where
  looked-up : (k : ℕ) → number % 64 ≡ k → b ≡ has (insert set 63) k
  looked-up k e = eb ∙ ap₂ has eh e

  pub always-in : r ≡ Always → number % 64 ≡ 63 → b ≡ ref_in set r
  unfolding ref_in
  always-in er en = looked-up 63 en ∙ insert-self set 63 (omega arith) ∙ sym (ap (ref_in set) er)

  pub numbered-in : (k : ℕ) → r ≡ Numbered k → dangling h r ≡ false → number ≡ k → b ≡ ref_in set r
  unfolding ref_in
  numbered-in k er d en =
      let l : k < h = numbered_below h k r er d in
      looked-up k (omega arith) ∙ insert-other set 63 k (omega arith) (λ z. omega arith) ∙ sym (ap (ref_in set) er)

-- by the set of the records that hold a reference holds exactly when the hours that it names do
pub ref-in : (s : List ℕ) (c from h t set : ℕ) (r : HoursRef) → t < E → set ≡ holding s c from h t → dangling h r ≡ false
    → ref_in set r ≡ ref_holds c (hours_from s from h) r t
unfolding ref_in ref_holds
ref-in s c from h t set Always l e d = sym (lt-ltb t E l)
ref-in s c from h t set (Numbered k) l e d =
    let m : k < h = numbered_below h k (Numbered k) refl d in
    ap (λ (x : ℕ). has x k) e ∙ held k m ∙ ap (λ (x : Hours). holds c x t) (sym (named k m))
  where
    held : (k : ℕ) → k < h → has (holding s c from h t) k ≡ holds c (hours_at s (record_at s from k)) t
    held k m = unfold holding records_that in has-below h _ k m

    named : (k : ℕ) → k < h → get_or (hours_from s from h) k never ≡ hours_at s (record_at s from k)
    named k m = unfold hours_from in get-list_of h _ never k m
