-- A list whose first elements are mapped: what stands in a lent slice while a loop maps it in place.
--     up_to-zero, up_to-set, up_to-all   before the first turn, after one more, after all of them
--     up_to-length                     it is as long as the list
-- Assumes nothing.
use Prim.Native.Nat.{ℕ, zero, suc, ◌+◌}
use mathlib.Core.Path.{◌≡◌, refl, ap, sym, ◌∙◌}
use mathlib.Core.List.{List, [], ◌∷◌, map}
use native.Mathlib.Numerals.{add-one}
use lib.ListN.{length, get_or, set}

module _ {A : Type 0} (f : A → A) where
  pub up_to : ℕ → List A → List A
  up_to zero xs = xs
  up_to (suc i) [] = []
  up_to (suc i) (x ∷ xs) = f x ∷ up_to i xs

  pub up_to-zero : (xs : List A) → up_to 0 xs ≡ xs
  unfolding up_to
  up_to-zero xs = refl

  pub up_to-length : (i : ℕ) (xs : List A) → length (up_to i xs) ≡ length xs
  unfolding up_to
  up_to-length zero xs = refl
  up_to-length (suc i) [] = refl
  up_to-length (suc i) (x ∷ xs) = ap suc (up_to-length i xs)

  up_to-at : (i : ℕ) (xs : List A) (d : A) → get_or (up_to i xs) i d ≡ get_or xs i d
  unfolding up_to
  up_to-at zero xs d = refl
  up_to-at (suc i) [] d = refl
  up_to-at (suc i) (x ∷ xs) d = up_to-at i xs d

  set-suc : (i : ℕ) (xs : List A) (d : A) → set (up_to i xs) i (f (get_or xs i d)) ≡ up_to (suc i) xs
  unfolding up_to
  set-suc zero [] d = refl
  set-suc zero (x ∷ xs) d = refl
  set-suc (suc i) [] d = refl
  set-suc (suc i) (x ∷ xs) d = ap (λ (l : List A). f x ∷ l) (set-suc i xs d)

  -- the next element is mapped
  pub up_to-set : (i : ℕ) (xs : List A) (d y : A) → y ≡ f (get_or (up_to i xs) i d) → set (up_to i xs) i y ≡ up_to (i + 1) xs
  up_to-set i xs d y e =
      ap (set (up_to i xs) i) (e ∙ ap f (up_to-at i xs d)) ∙ set-suc i xs d ∙ ap (λ (j : ℕ). up_to j xs) (sym (add-one i))

  pub up_to-all : (xs : List A) → up_to (length xs) xs ≡ map f xs
  unfolding up_to
  up_to-all [] = refl
  up_to-all (x ∷ xs) = ap (λ (l : List A). f x ∷ l) (up_to-all xs)
