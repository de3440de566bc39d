-- One pair more: it stands at its place, and those before it stay.
-- Assumes nothing.
use Prim.Native.Nat.{ℕ, ◌+◌, ◌*◌, ◌<◌}
use mathlib.Core.Path.{◌≡◌, ◌∙◌}
use mathlib.Core.List.{List}
use native.Mathlib.Omega.{arith}
use lib.ListN.{length, set, length-set}
use lib.Seq.{get_or-set_same, get_or-set_other}
use Rattle.rewrite_index.specs.Entries.{with_pair}
use Rattle.rewrite_trees.specs.Tree.{users_at, permissions_at}

module _ (pairs : List ℕ) (d u p : ℕ) where
  pub users-kept : (i : ℕ) → i < d → users_at (with_pair pairs d u p) i ≡ users_at pairs i
  unfolding with_pair
  users-kept i h =
      get_or-set_other (set pairs (2 * d) u) (2 * d + 1) (2 * i) p 0 (λ e. omega arith) ∙ get_or-set_other pairs (2 * d) (2 * i) u 0 (λ e. omega arith)

  pub permissions-kept : (i : ℕ) → i < d → permissions_at (with_pair pairs d u p) i ≡ permissions_at pairs i
  unfolding with_pair
  permissions-kept i h =
      get_or-set_other (set pairs (2 * d) u) (2 * d + 1) (2 * i + 1) p 0 (λ e. omega arith)
      ∙ get_or-set_other pairs (2 * d) (2 * i + 1) u 0 (λ e. omega arith)

  pub users-new : 2 * d + 1 < length pairs → users_at (with_pair pairs d u p) d ≡ u
  unfolding with_pair
  users-new h =
      get_or-set_other (set pairs (2 * d) u) (2 * d + 1) (2 * d) p 0 (λ e. omega arith) ∙ get_or-set_same pairs (2 * d) u 0 (omega arith)

  pub permissions-new : 2 * d + 1 < length pairs → permissions_at (with_pair pairs d u p) d ≡ p
  unfolding with_pair
  permissions-new h = get_or-set_same (set pairs (2 * d) u) (2 * d + 1) p 0 (omega (arith, length-set pairs (2 * d) u))
