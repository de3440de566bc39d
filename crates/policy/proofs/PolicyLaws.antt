-- An answer that is the lowest role that passes says yes exactly when some role passes.
-- Assumes nothing.
use Prim.Native.Nat.{ℕ}
use mathlib.Core.Path.{◌≡◌, refl, ap}
use mathlib.Core.Bool.{Bool, true, false}
use Rattle.ground.specs.Believed.Search.{any_below, lowest_below}
use Rattle.ground.proofs.SearchLaws.{any-no, lowest-some, lowest-none}
use Rattle.policy.specs.Believed.Policy.{is_yes}

pub yes-is : (n : ℕ) (f : ℕ → Bool) → is_yes (lowest_below n f) ≡ any_below n f
yes-is n f = go (any_below n f) refl
  where
    go : (b : Bool) → any_below n f ≡ b → is_yes (lowest_below n f) ≡ b
    go true e = ap is_yes (lowest-some f n e).is
    go false e = ap is_yes (lowest-none f n (any-no n f e))
