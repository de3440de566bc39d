-- What it says that a window of a source role follows another, and what it leaves: no minute that both cover.
--     after-of, follows_of    the reader's test, and the fact
--     after-trans             one after another
--     after-apart             two windows of one source role, one after the other, cover no minute both
-- Assumes nothing.
use Rattle.ground.proofs.BoolLaws.{or_yes, and_yes}
use Prim.Native.Nat.{ℕ, ◌+◌, ◌≤◌, ◌<◌}
use mathlib.Core.Path.{◌≡◌}
use mathlib.Core.Logic.{◌⊎◌, inl, inr, ⊎_elim}
use mathlib.Core.Bool.{true, or-true}
use native.Mathlib.Omega.{arith}
use borrow.Author.Tests.{ltb-true, leb-true, eqb-true, lt-ltb, le-leb, eq-eqb}
use Rattle.minutes.specs.Believed.Minutes.{Window}
use Rattle.minutes.proofs.WindowLaws.{In}
use Rattle.table.specs.Believed.TableRefusals.{follows}

-- a window w of source role q comes after a window v of source role r
abbrev pub After : ℕ → Window → ℕ → Window → Type 0
After r v q w =
    (r < q)
    ⊎ ((r ≡ q) × (v.begin ≡ w.begin) × (v.end ≡ w.end) × (v.offset + v.length ≤ w.offset))
    ⊎ ((r ≡ q) × (v.end ≤ w.begin))

module _ (r : ℕ) (v : Window) (q : ℕ) (w : Window) where
  pub after-of : follows r v q w ≡ true → After r v q w
  unfolding follows
  after-of h =
      ⊎_elim
      (λ h1.
      ⊎_elim
      (λ h2. inl (ltb-true r q h2))
      (λ h2.
      let a = and_yes _ _ h2 in
      let b = and_yes _ _ a.0 in
      let c = and_yes _ _ b.0 in
      inr (inl (eqb-true _ _ c.0, eqb-true _ _ c.1, eqb-true _ _ b.1, leb-true _ _ a.1)))
      (or_yes _ _ h1))
      (λ h1. let a = and_yes _ _ h1 in inr (inr (eqb-true _ _ a.0, leb-true _ _ a.1)))
      (or_yes _ _ h)

  pub follows_of : After r v q w → follows r v q w ≡ true
  unfolding follows
  follows_of (inl h) = rw (lt-ltb r q h)
  follows_of (inr (inl h)) = simp (eq-eqb r q h.0, eq-eqb _ _ h.1, eq-eqb _ _ h.2, le-leb _ _ h.3, or-true)
  follows_of (inr (inr h)) = simp (eq-eqb r q h.0, le-leb _ _ h.1, or-true)

pub after-trans : (r : ℕ) (v : Window) (q : ℕ) (w : Window) (p : ℕ) (x : Window) → w.begin ≤ w.end → After r v q w → After q w p x → After r v p x
after-trans r v q w p x o (inl h) (inl k) = inl (omega arith)
after-trans r v q w p x o (inl h) (inr (inl k)) = inl (omega arith)
after-trans r v q w p x o (inl h) (inr (inr k)) = inl (omega arith)
after-trans r v q w p x o (inr (inl h)) (inl k) = inl (omega arith)
after-trans r v q w p x o (inr (inr h)) (inl k) = inl (omega arith)
after-trans r v q w p x o (inr (inl h)) (inr (inl k)) = inr (inl (omega arith))
after-trans r v q w p x o (inr (inl h)) (inr (inr k)) = inr (inr (omega arith))
after-trans r v q w p x o (inr (inr h)) (inr (inl k)) = inr (inr (omega arith))
after-trans r v q w p x o (inr (inr h)) (inr (inr k)) = inr (inr (omega arith))

pub after-apart : (r : ℕ) (v : Window) (q : ℕ) (w : Window) (c t : ℕ) → r ≡ q → After r v q w → In c v t → In c w t → ⊥
after-apart r v q w c t e (inl h) f g = omega arith
after-apart r v q w c t e (inr (inl h)) f g = omega arith
after-apart r v q w c t e (inr (inr h)) f g = omega arith
