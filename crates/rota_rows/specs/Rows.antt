-- A row's three bytes, when one is out of range, and when a row is not above the one before.
use Rattle.std.specs.Prelude.{ℕ, ◌+◌, ◌-◌, ◌*◌, ◌<◌, Bool, ◌&&◌, ◌||◌, List, ◌≡◌, leb, eqb, get_or}
use Rattle.ground.specs.Believed.Choice.{pick}
use Rattle.endian.specs.Believed.Numbers.{u8_at}

-- the row at a position has a number not below `top`, a role not below `roles`, or an hours reference that is neither below `hours` nor 255
unfoldable pub row_out : ℕ → ℕ → ℕ → List ℕ → ℕ → Bool
row_out top roles hours s at =
    leb top (u8_at s at) || leb roles (u8_at s (at + 1)) || (leb hours (u8_at s (at + 2)) && leb (u8_at s (at + 2)) 254)

-- byte j of those from `at` on lies in its range
unfoldable pub byte_out : List ℕ → List ℕ → List ℕ → ℕ → ℕ → Bool
byte_out low high s at j = leb (get_or low j 0) (u8_at s (at + j)) && leb (u8_at s (at + j)) (get_or high j 0)

-- the first n threes of an array are a, b and c
pub record Pattern (a b c n : ℕ) (p : List ℕ) : Type 0 where
  pub first : (k : ℕ) → k < n → get_or p (3 * k) 0 ≡ a
  pub second : (k : ℕ) → k < n → get_or p (3 * k + 1) 0 ≡ b
  pub third : (k : ℕ) → k < n → get_or p (3 * k + 2) 0 ≡ c

-- the place in the order of the row at a position: by role, then number, then hours
unfoldable pub place_at : List ℕ → ℕ → ℕ
place_at s at = (u8_at s (at + 1) * 256 + u8_at s at) * 256 + u8_at s (at + 2)

-- the row after the row at a position is not above it
unfoldable pub next_falls : List ℕ → ℕ → Bool
next_falls s at = leb (place_at s (at + 3)) (place_at s at)

-- how far y lies above x, 0 where it is below, and what is given where they are equal
unfoldable pub rise_of : ℕ → ℕ → ℕ → ℕ
rise_of x y after = pick (eqb x y) after (y - x)
