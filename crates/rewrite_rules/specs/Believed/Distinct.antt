-- A list without repeats in the order of first occurrence, and the place of an element.
use Rattle.std.specs.Prelude.{ℕ, suc, Bool, List, [], ◌∷◌, ◌++◌}
use Rattle.ground.specs.Believed.Choice.{pick}
use Rattle.ground.specs.Believed.Search.{any}

-- x at the end, unless it is there
unfoldable pub add_new : {A : Type 0} → (A → A → Bool) → List A → A → List A
add_new same l x = pick (any (same x) l) l (l ++ (x ∷ []))

unfoldable pub add_all : {A : Type 0} → (A → A → Bool) → List A → List A → List A
add_all same l [] = l
add_all same l (x ∷ xs) = add_all same (add_new same l x) xs

-- the place of the first element that is the same as x
unfoldable pub place_of : {A : Type 0} → (A → A → Bool) → A → List A → ℕ
place_of same x [] = 0
place_of same x (y ∷ l) = pick (same x y) 0 (suc (place_of same x l))
