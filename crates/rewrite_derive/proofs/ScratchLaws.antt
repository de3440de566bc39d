-- The scratch that the steps lend one another keeps its room.
-- Assumes nothing.
use Prim.Native.Nat.{ℕ}
use mathlib.Core.Path.{◌≡◌, refl, ◌∙◌}
use mathlib.Core.List.{List}
use native.Mathlib.Omega.{arith}
use lib.ListN.{length}
use Rattle.rewrite_derive.specs.Derive.{Room}

pub room-kept : {n w : ℕ} {sets pairs marks links pairs' marks' links' : List ℕ} → Room n w sets pairs marks links → length pairs' ≡ length pairs
    → length marks' ≡ length marks → length links' ≡ length links → Room n w sets pairs' marks' links'
room-kept r ep em el =
    record {
      few = r.few;
      for-sets = r.for-sets;
      for-pairs = omega (arith, r.for-pairs);
      for-marks = omega (arith, r.for-marks);
      for-links = omega (arith, r.for-links);
      some = r.some;
      trees = r.trees;
    }

-- each is as long as it was
pub record Lent (pairs₀ marks₀ links₀ pairs marks links : List ℕ) : Type 0 where
  pub of-pairs : length pairs ≡ length pairs₀
  pub of-marks : length marks ≡ length marks₀
  pub of-links : length links ≡ length links₀

pub lent-start : (pairs marks links : List ℕ) → Lent pairs marks links pairs marks links
lent-start pairs marks links = record { of-pairs = refl; of-marks = refl; of-links = refl }

module _ {pairs₀ marks₀ links₀ pairs marks links : List ℕ} (l : Lent pairs₀ marks₀ links₀ pairs marks links) where
  pub lent-on : {pairs' marks' links' : List ℕ} → length pairs' ≡ length pairs → length marks' ≡ length marks → length links' ≡ length links
      → Lent pairs₀ marks₀ links₀ pairs' marks' links'
  lent-on ep em el = record { of-pairs = ep ∙ l.of-pairs; of-marks = em ∙ l.of-marks; of-links = el ∙ l.of-links }

  pub room-lent : {n w : ℕ} {sets : List ℕ} → Room n w sets pairs₀ marks₀ links₀ → Room n w sets pairs marks links
  room-lent r = room-kept r l.of-pairs l.of-marks l.of-links
