-- Elements of lists: some of them, every one of them, and every pair of them.
--     some_in, some_out, some_same, at_in        some element passes; what stands at an index is an element
--     all_in, all_append, all-unit, all_map, all-mapped, all-with, all_both, map_same     a condition on every element
--     Pairwise, pairwise_append, pairwise-with, pairwise_map    each element before each later one
-- Assumes nothing.
use Prim.Native.Nat.{ℕ, zero, suc, ◌<◌}
use mathlib.Core.Path.{◌≡◌, refl, sym, ap, ap₂, ◌∙◌, subst}
use mathlib.Core.Logic.{⊎_elim}
use mathlib.Core.Bool.{Bool, true, false, ◌||◌, or-true}
use mathlib.Core.List.Memᴰ
use mathlib.Core.List.{List, [], ◌∷◌, ◌++◌, map, Memᴰ}
use native.Mathlib.Nat.{not-suc-le-zero, le_of_suc-le-suc}
use lib.ListN.{length, get_or}
use Rattle.ground.specs.Believed.Search.{any}
use Rattle.ground.specs.Believed.Sequence.{All}
use Rattle.ground.proofs.BoolLaws.{clash, or_yes}

module _ {ℓ} {A : Type ℓ} where
  pub some_in : (f : A → Bool) {x : A} {l : List A} → Memᴰ x l → f x ≡ true → any f l ≡ true
  unfolding any
  some_in f (Memᴰ.head {x = y} {xs = l} e) h = rw (ap f (sym e) ∙ h)
  some_in f (Memᴰ.tail {x = y} {xs = l} m) h = rw (some_in f m h) (or-true (f y))

  pub some_out : (f : A → Bool) (l : List A) → any f l ≡ true → (x : A) × Memᴰ x l × (f x ≡ true)
  unfolding any
  some_out f [] h = clash false h refl
  some_out f (y ∷ l) h =
      ⊎_elim
      (λ e. (y, Memᴰ.head refl, e))
      (λ e. let r = some_out f l e in (r.0, Memᴰ.tail r.1, r.2))
      (or_yes (f y) (any f l) h)

  pub some_same : (f g : A → Bool) (l : List A) → ((x : A) → Memᴰ x l → f x ≡ g x) → any f l ≡ any g l
  unfolding any
  some_same f g [] h = refl
  some_same f g (x ∷ l) h = ap₂ ◌||◌ (h x (Memᴰ.head refl)) (some_same f g l (λ y m. h y (Memᴰ.tail m)))

  pub all_in : (P : A → Type 0) {x : A} (l : List A) → All P l → Memᴰ x l → P x
  all_in P [] p m = absurd (Memᴰ.not-nil m)
  all_in P (y ∷ l) p m = ⊎_elim (λ e. subst P (sym e) p.0) (λ k. all_in P l p.1 k) (Memᴰ.cases_cons m)

  pub all_append : (P : A → Type 0) (l m : List A) → All P l → All P m → All P (l ++ m)
  all_append P [] m p q = q
  all_append P (x ∷ l) m p q = (p.0, all_append P l m p.1 q)

  pub at_in : (l : List A) (i : ℕ) (d : A) → i < length l → Memᴰ (get_or l i d) l
  at_in [] i d h = absurd (not-suc-le-zero h)
  at_in (x ∷ l) zero d h = Memᴰ.head refl
  at_in (x ∷ l) (suc i) d h = Memᴰ.tail (at_in l i d (le_of_suc-le-suc h))

pub all-unit {ℓ} : {A : Type ℓ} (xs : List A) → All (λ (x : A). Unit {0}) xs
all-unit [] = tt
all-unit (x ∷ xs) = (tt, all-unit xs)

module _ {A : Type 0} (P : A → Type 0) where
  pub all_map : {B : Type 0} (f : B → A) (xs : List B) → All (λ (x : B). P (f x)) xs → All P (map f xs)
  all_map f [] p = tt
  all_map f (x ∷ xs) p = (p.0, all_map f xs p.1)

  pub all-mapped : {B : Type 0} (f : B → A) (xs : List B) → All P (map f xs) → All (λ (x : B). P (f x)) xs
  all-mapped f [] p = tt
  all-mapped f (x ∷ xs) p = (p.0, all-mapped f xs p.1)

-- each element stands in R to each later one
abbrev pub Pairwise : {A : Type 0} → (A → A → Type 0) → List A → Type 0
Pairwise R [] = Unit {0}
Pairwise R (x ∷ xs) = All (R x) xs × Pairwise R xs

module _ {A : Type 0} where
  -- a condition that follows from another
  pub all-with : {P Q : A → Type 0} → ((x : A) → P x → Q x) → (xs : List A) → All P xs → All Q xs
  all-with f [] p = tt
  all-with f (x ∷ xs) p = (f x p.0, all-with f xs p.1)

  -- and one that follows from two
  pub all_both : {P Q R : A → Type 0} → ((x : A) → P x → Q x → R x) → (xs : List A) → All P xs → All Q xs → All R xs
  all_both f [] p q = tt
  all_both f (x ∷ xs) p q = (f x p.0 q.0, all_both f xs p.1 q.1)

  pub map_same : {B : Type 0} (f g : A → B) (xs : List A) → All (λ (x : A). f x ≡ g x) xs → map f xs ≡ map g xs
  map_same f g [] h = refl
  map_same f g (x ∷ xs) h = ap₂ ◌∷◌ h.0 (map_same f g xs h.1)

  pub pairwise_append : (R : A → A → Type 0) (xs ys : List A) → Pairwise R xs → Pairwise R ys → All (λ (x : A). All (R x) ys) xs → Pairwise R (xs ++ ys)
  pairwise_append R [] ys p q h = q
  pairwise_append R (x ∷ xs) ys p q h = (all_append (R x) xs ys p.0 h.0, pairwise_append R xs ys p.1 q h.1)

  -- an order that follows from another, among elements that meet P
  pub pairwise-with : {P : A → Type 0} {R S : A → A → Type 0} → ((x y : A) → P x → P y → R x y → S x y) → (xs : List A) → All P xs → Pairwise R xs → Pairwise S xs
  pairwise-with h [] p q = tt
  pairwise-with h (x ∷ xs) p q = (all_both (λ y m n. h x y p.0 m n) xs p.1 q.0, pairwise-with h xs p.1 q.1)

  pub pairwise_map : {B : Type 0} (S : B → B → Type 0) (f : A → B) (xs : List A) → Pairwise (λ (x y : A). S (f x) (f y)) xs → Pairwise S (map f xs)
  pairwise_map S f [] p = tt
  pairwise_map S f (x ∷ xs) p = (all_map (S (f x)) f xs p.0, pairwise_map S f xs p.1)
