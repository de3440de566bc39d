-- A number as a set of numbers: i is a member where bit i, of value 2 ^ i, is set (document 01, "The table's bytes").
use Rattle.std.specs.Prelude.{◌≡◌, Bool, true, false, ◌&&◌, ◌||◌, not, ℕ, zero, suc, ◌+◌, ◌*◌, ◌/◌, ◌%◌, ◌^◌, ◌<◌, eqb}
use Rattle.ground.specs.Believed.Search.{one, count_below}

-- whether i is a member of x
unfoldable pub has : ℕ → ℕ → Bool
has x i = eqb (x / 2 ^ i % 2) 1

-- the numbers below n that pass, as a set
unfoldable pub set_of : ℕ → (ℕ → Bool) → ℕ
set_of zero f = 0
set_of (suc n) f = one (f 0) + 2 * set_of n (λ i. f (suc i))

-- the operations on sets of the numbers 0 to 63, each by the members of its result
unfoldable pub insert : ℕ → ℕ → ℕ
insert x i = set_of 64 (λ j. has x j || eqb j i)

unfoldable pub remove : ℕ → ℕ → ℕ
remove x i = set_of 64 (λ j. has x j && not (eqb j i))

unfoldable pub union : ℕ → ℕ → ℕ
union x y = set_of 64 (λ j. has x j || has y j)

unfoldable pub intersection : ℕ → ℕ → ℕ
intersection x y = set_of 64 (λ j. has x j && has y j)

unfoldable pub difference : ℕ → ℕ → ℕ
difference x y = set_of 64 (λ j. has x j && not (has y j))

-- the number of members
unfoldable pub count : ℕ → ℕ
count x = count_below 64 (has x)

-- r is the lowest member of x
pub record Lowest (x r : ℕ) : Type 0 where
  pub member : has x r ≡ true
  pub below : (j : ℕ) → j < r → has x j ≡ false
