-- The calls of `reach`: none left, a role that is reached, and one that is not.
-- Assumes nothing.
use Prim.Native.Nat.{ℕ, suc, ◌-◌}
use mathlib.Core.Path.{◌≡◌, refl, sym, ap, ◌∙◌}
use mathlib.Core.Bool.{Bool, true, false}
use mathlib.Core.List.{List}
use native.Mathlib.Omega.{arith}
use lib.ListN.{get_or}
use Rattle.ground.specs.Believed.Choice.{pick}
use Rattle.bitset.specs.Believed.Sets.{has, union, intersection}
use Rattle.rota_pairs.specs.HandedDown.{handed_down}

module _ (js : List ℕ) (on : ℕ) where
  pub reach-none : (n x : ℕ) → n ≡ 0 → x ≡ handed_down js on n x
  unfolding handed_down
  reach-none n x e = rw e refl

  module _ (n r x : ℕ) (b : Bool) (some : n ≡ 0 → ⊥) (er : r ≡ n - 1) (eb : b ≡ has x r) where
    -- what role r hands on to, where b says that it is reached
    abbrev after : Bool → ℕ
    after c = pick c (union x (intersection (get_or js r 0) on)) x

    turn : (c : Bool) → b ≡ c → handed_down js on r (after c) ≡ handed_down js on n x
    unfolding handed_down
    turn c t = let q : n ≡ suc r = omega arith in rw q (ap (λ (d : Bool). handed_down js on r (after d)) (sym t ∙ eb))

    pub reach-in : (y z more : ℕ) → b ≡ true → more ≡ intersection (get_or js r 0) on → y ≡ union x more → z ≡ handed_down js on r y
        → z ≡ handed_down js on n x
    reach-in y z more t em ey ez = ez ∙ ap (handed_down js on r) (ey ∙ ap (union x) em) ∙ turn true t

    pub reach-out : (z : ℕ) → b ≡ false → z ≡ handed_down js on r x → z ≡ handed_down js on n x
    reach-out z t ez = ez ∙ turn false t
