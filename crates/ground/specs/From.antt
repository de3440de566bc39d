-- A search from a number on.
use Rattle.std.specs.Prelude.{ℕ, Bool, ◌&&◌, leb, Option, None, Some}
use Rattle.ground.specs.Believed.Search.{lowest_below}

-- the number that is there, else n
abbrev pub or_number : ℕ → Option ℕ → ℕ
or_number n None = n
or_number n (Some k) = k

-- of the numbers from m to before n the first that passes, or n
unfoldable pub first_from : ℕ → ℕ → (ℕ → Bool) → ℕ
first_from m n f = or_number n (lowest_below n (λ i. leb m i && f i))
