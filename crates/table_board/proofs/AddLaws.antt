-- Permissions added to the sets of users, one user after the other.
--     added_none, added-turn     no user is left; one is done, and the others are added to what there is then
-- Assumes nothing.
use Prim.Native.Nat.{ℕ, ◌<◌}
use mathlib.Core.Path.{◌≡◌, refl, sym, ◌∙◌, ap}
use mathlib.Core.Bool.{Bool, true, false}
use mathlib.Core.List.{List}
use native.Mathlib.Omega.{arith}
use lib.Dec.{eqb}
use lib.ListN.{length, get_or, set}
use lib.Seq.{get_or-set_same, get_or-set_other}
use borrow.Author.Tests.{eqb-true, eqb-false}
use Rattle.ground.specs.Believed.Choice.{pick}
use Rattle.ground.proofs.BoolLaws.{pick-false}
use Rattle.ground.proofs.SequenceLaws.{list_of-same, list_of-is}
use Rattle.bitset.specs.Believed.Sets.{has, remove, union}
use Rattle.bitset.proofs.SetLaws.{has-none, remove-self, remove-other}
use Rattle.table_board.specs.Rows.{added}

pub added_none : (rights : List ℕ) (users permissions : ℕ) → length rights ≡ 64 → users ≡ 0 → added rights users permissions ≡ rights
unfolding added
added_none rights users permissions h z =
    list_of-is 64 _ rights 0 (sym h) (λ u l. pick-false (has users u) _ _ (ap (λ (x : ℕ). has x u) z ∙ has-none u))

-- i is one of the users
module _ (rights : List ℕ) (users permissions i : ℕ) (n : length rights ≡ 64) (l : i < 64) (h : has users i ≡ true) where
  abbrev after : List ℕ
  after = set rights i (union (get_or rights i 0) permissions)

  one-done : (u : ℕ) → u < 64
      → pick (has users u) (union (get_or rights u 0) permissions) (get_or rights u 0)
      ≡ pick (has (remove users i) u) (union (get_or after u 0) permissions) (get_or after u 0)
  one-done u m = go (eqb u i) refl
    where
      go : (b : Bool) → eqb u i ≡ b
          → pick (has users u) (union (get_or rights u 0) permissions) (get_or rights u 0)
          ≡ pick (has (remove users i) u) (union (get_or after u 0) permissions) (get_or after u 0)
      go true e = let z = eqb-true u i e in rw (z, h, remove-self users i l, get_or-set_same rights i (union (get_or rights i 0) permissions) 0 (omega arith)) refl
      go false e = let z = eqb-false u i e in rw (remove-other users i u m z, get_or-set_other rights i u (union (get_or rights i 0) permissions) 0 z) refl

  pub added-turn : (x r : ℕ) → x ≡ union (get_or rights i 0) permissions → r ≡ remove users i
      → added rights users permissions ≡ added (set rights i x) r permissions
  unfolding added
  added-turn x r ex er = rw (ex, er) (list_of-same 64 _ _ one-done)
