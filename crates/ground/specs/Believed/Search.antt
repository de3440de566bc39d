-- Whether some element or some number passes a test, and which number.
use Rattle.std.specs.Prelude.{ℕ, zero, suc, ◌+◌, Bool, true, false, ◌||◌, List, [], ◌∷◌, Option, None, Some}
use Rattle.ground.specs.Believed.Choice.{pick}

-- some element of a list passes
unfoldable pub any {ℓ} : {A : Type ℓ} → (A → Bool) → List A → Bool
any f [] = false
any f (x ∷ xs) = f x || any f xs

-- how many elements of a list pass
unfoldable pub count_of {ℓ} : {A : Type ℓ} → (A → Bool) → List A → ℕ
count_of f [] = 0
count_of f (x ∷ xs) = pick (f x) (suc (count_of f xs)) (count_of f xs)

-- some number below n passes
unfoldable pub any_below : ℕ → (ℕ → Bool) → Bool
any_below zero f = false
any_below (suc n) f = any_below n f || f n

-- the first of two that is there
unfoldable pub first_there : Option ℕ → Option ℕ → Option ℕ
first_there None o = o
first_there (Some k) o = Some k

-- the lowest number below n that passes
unfoldable pub lowest_below : ℕ → (ℕ → Bool) → Option ℕ
lowest_below zero f = None
lowest_below (suc n) f = first_there (lowest_below n f) (pick (f n) (Some n) None)

-- the highest number below n that passes, and 0 where none does
unfoldable pub highest_below : ℕ → (ℕ → Bool) → ℕ
highest_below zero f = 0
highest_below (suc n) f = pick (f n) n (highest_below n f)

abbrev pub one : Bool → ℕ
one true = 1
one false = 0

-- how many numbers below n pass
unfoldable pub count_below : ℕ → (ℕ → Bool) → ℕ
count_below zero f = 0
count_below (suc n) f = count_below n f + one (f n)
