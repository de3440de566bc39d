-- Lists by index, joined lists, and a condition on every element.
use Rattle.std.specs.Prelude.{ℕ, zero, suc, List, [], ◌∷◌, ◌++◌}

-- f 0, f 1, .., f (n - 1)
unfoldable pub list_of {ℓ} : {A : Type ℓ} → ℕ → (ℕ → A) → List A
list_of zero f = []
list_of (suc n) f = list_of n f ++ (f n ∷ [])

-- the lists e x for each element x, one after the other
unfoldable pub joined {ℓ} : {A : Type ℓ} → (A → List ℕ) → List A → List ℕ
joined e [] = []
joined e (x ∷ xs) = e x ++ joined e xs

-- every element meets P
abbrev pub All {ℓ} : {A : Type ℓ} → (A → Type 0) → List A → Type 0
All P [] = Unit {0}
All P (x ∷ xs) = P x × All P xs
