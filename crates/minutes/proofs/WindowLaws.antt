-- A window and a minute.
--     In, covers-in, in-covers      a window covers a minute, as four comparisons
--     minute-in, minute-any         the first minute of a window is in it, where any minute is
-- Assumes nothing.
use Prim.Native.Nat.{ℕ, ◌+◌, ◌%◌, ◌≤◌, ◌<◌}
use mathlib.Core.Path.{◌≡◌}
use mathlib.Core.Bool.{true}
use native.Mathlib.Omega.{arith}
use borrow.Author.Tests.{leb-true, ltb-true, le-leb, lt-ltb}
use Rattle.ground.proofs.BoolLaws.{and_left, and_right, and_both}
use Rattle.minutes.specs.Believed.Minutes.{Window, in_phase, covers}
use Rattle.minutes.specs.First.{minute_of}
use Rattle.minutes.proofs.FirstLaws.{first-ge, first-left, first-right, first-le}

pub record In (c : ℕ) (w : Window) (t : ℕ) : Type 0 where
  pub from : w.begin ≤ t
  pub to : t < w.end
  pub left : w.offset ≤ t % c
  pub right : t % c < w.offset + w.length

module _ {c : ℕ} {w : Window} {t : ℕ} where
  pub covers-in : covers c w t ≡ true → In c w t
  unfolding covers in_phase
  covers-in h =
      record {
        from = leb-true _ _ (search (and_left, and_right));
        to = ltb-true _ _ (search (and_left, and_right));
        left = leb-true _ _ (search (and_left, and_right));
        right = ltb-true _ _ (search (and_left, and_right));
      }

  pub in-covers : In c w t → covers c w t ≡ true
  unfolding covers in_phase
  in-covers h =
      and_both _ _ (and_both _ _ (le-leb _ _ h.from) (lt-ltb _ _ h.to)) (and_both _ _ (le-leb _ _ h.left) (lt-ltb _ _ h.right))

-- the first minute
module _ (c : ℕ) (w : Window) (pos : 0 < c) (wide : w.offset < w.offset + w.length) (fits : w.offset + w.length ≤ c) where
  pub minute-in : minute_of c w < w.end → covers c w (minute_of c w) ≡ true
  minute-in h =
      in-covers
      (record {
        from = first-ge _ _ _ _ pos wide fits;
        to = h;
        left = first-left _ _ _ _ pos wide fits;
        right = first-right _ _ _ _ pos wide fits;
      })

  pub minute-any : (t : ℕ) → covers c w t ≡ true → minute_of c w < w.end
  minute-any t h = let k : In c w t = covers-in h in omega (arith, first-le _ _ _ _ pos wide fits t k.from k.left k.right)
