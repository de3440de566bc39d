-- The header: how long it is, and its format.
--     header-length, header-long     its length, and the bytes that its counts are read from
--     format-is, is-format           the formats that are read
-- Assumes nothing.
use Prim.Native.Nat.{ℕ, ◌≤◌}
use mathlib.Core.Path.{◌≡◌, refl}
use mathlib.Core.List.{List}
use mathlib.Core.Logic.{◌⊎◌, inl, inr}
use mathlib.Core.Bool.{Bool, true, false, ◌||◌, or-true}
use native.Mathlib.Omega.{arith}
use borrow.Author.Tests.{eq-eqb, eqb-true}
use lib.Dec.{eqb}
use lib.ListN.{length}
use Rattle.rota.specs.Believed.RotaBytes.{header_length}
use Rattle.rota.specs.Believed.RotaRefusals.{format_read}

pub header-length : (s : List ℕ) → header_length s ≡ 12
unfolding header_length
header-length s = refl

pub header-long : (s : List ℕ) {n : ℕ} → n ≡ header_length s → n ≤ length s → 12 ≤ length s
header-long s e l = omega (arith, header-length s)

pub format-is : (n : ℕ) → format_read n ≡ true → (n ≡ 1) ⊎ (n ≡ 3)
unfolding format_read
format-is n h = go (eqb n 1) refl h
  where
    go : (b : Bool) → eqb n 1 ≡ b → (b || eqb n 3) ≡ true → (n ≡ 1) ⊎ (n ≡ 3)
    go true e h = inl (eqb-true n 1 e)
    go false e h = inr (eqb-true n 3 h)

pub is-format : (n : ℕ) → (n ≡ 1) ⊎ (n ≡ 3) → format_read n ≡ true
unfolding format_read
is-format n (inl e) = rw (eq-eqb n 1 e) refl
is-format n (inr e) = rw (eq-eqb n 3 e) (or-true (eqb n 1))
