-- The source roles of the rows of an accepted table ascend.
-- Assumes nothing.
use Prim.Native.Nat.{ℕ, zero, suc, ◌≤◌, ◌<◌}
use mathlib.Core.Path.{◌≡◌, refl}
use mathlib.Core.Logic.{⊎_elim}
use mathlib.Core.List.{List}
use mathlib.Core.Bool.{Bool, true, false, ◌&&◌, ◌||◌}
use borrow.Author.Tests.{ltb-true, eqb-true}
use native.Mathlib.Nat.{eq-or-lt_of_le, le_of_suc-le-suc, le_refl, le_trans, lt_trans}
use native.Mathlib.Omega.{arith}
use lib.Dec.{ltb, eqb}
use Rattle.minutes.specs.Believed.Minutes.{Window}
use Rattle.table.specs.Believed.TableBytes.{rows_of}
use Rattle.table.specs.Believed.TableRefusals.{follows, source_of, follows_before}
use Rattle.table.proofs.FineLaws.{TableFine}

-- a window that follows another has no lower source
follows-le : (r q : ℕ) (v w : Window) → follows r v q w ≡ true → r ≤ q
unfolding follows
follows-le r q v w h = go (ltb r q) (eqb r q) _ _ _ _ refl refl h
  where
    go : (a b x y z u : Bool) → ltb r q ≡ a → eqb r q ≡ b → (a || (b && x && y && z) || (b && u)) ≡ true → r ≤ q
    go true b x y z u e f g = let m = ltb-true r q e in omega arith
    go false true x y z u e f g = let m = eqb-true r q f in omega arith
    go false false x y z u e f g = let m : ◌≡◌ {A = ℕ} 0 1 = cc in omega arith

module _ (s : List ℕ) (t : TableFine s) where
  step-up : (i : ℕ) → suc i < rows_of s → source_of s i ≤ source_of s (suc i)
  unfolding follows_before
  step-up i l = follows-le _ _ _ _ (t.rows (suc i) l).follows

  -- rows go by source role
  pub sources-up : (i k : ℕ) → i ≤ k → k < rows_of s → source_of s i ≤ source_of s k
  sources-up i zero m l = let e : i ≡ 0 = omega arith in rw e (le_refl _)
  sources-up i (suc k) m l =
      ⊎_elim
      (λ (e : i ≡ suc k). rw e (le_refl _))
      (λ (h : i < suc k). le_trans (sources-up i k (le_of_suc-le-suc h) (lt_trans (le_refl (suc k)) l)) (step-up k l))
      (eq-or-lt_of_le m)
