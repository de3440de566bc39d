-- Laws of lists by index and of joined lists.
--     list_of-length, list_of-cons, all-list_of, get-list_of   length, first element, a condition on every element, the element at an index
--     list_of-more, list_of-same, map-list_of                 one element more; the same elements; each element mapped
--     list_of-all, list_of-next, list_of-is                   from a condition on every element, or on neighbours, to the index; the list itself
--     joined-append, joined-list_of                         joined lists, one part more
-- Assumes nothing.
use Prim.Native.Nat.{ℕ, zero, suc, ◌+◌, ◌<◌}
use mathlib.Core.Path.{◌≡◌, refl, sym, ◌∙◌, ap, ap₂, subst, subst₂}
use mathlib.Core.List.{List, [], ◌∷◌, ◌++◌, map, append_assoc, append-nil, map-append}
use native.Mathlib.Numerals.{add-one}
use native.Mathlib.Omega.{arith}
use native.Mathlib.Nat.{not-suc-le-zero, le_of_suc-le-suc}
use lib.ListN.{length, get_or, length-append}
use lib.Seq.{ext_get_or}
use Rattle.ground.specs.Believed.Sequence.{list_of, joined, All}
use Rattle.ground.proofs.ListLaws.{all_in, at_in}

pub list_of-length {ℓ} : {A : Type ℓ} (n : ℕ) (f : ℕ → A) → length (list_of n f) ≡ n
unfolding list_of
list_of-length zero f = refl
list_of-length (suc n) f = simp (length-append, list_of-length n f) (omega arith)

pub list_of-cons {ℓ} : {A : Type ℓ} (n : ℕ) (f : ℕ → A) → list_of (suc n) f ≡ f 0 ∷ list_of n (λ (k : ℕ). f (suc k))
unfolding list_of
list_of-cons zero f = refl
list_of-cons (suc n) f = ap (λ xs. xs ++ (f (suc n) ∷ [])) (list_of-cons n f)

pub list_of-more {ℓ} : {A : Type ℓ} (n : ℕ) (f : ℕ → A) → list_of (n + 1) f ≡ list_of n f ++ (f n ∷ [])
unfolding list_of
list_of-more n f = rw (add-one n)

pub list_of-same {ℓ} : {A : Type ℓ} (n : ℕ) (f g : ℕ → A) → ((k : ℕ) → k < n → f k ≡ g k) → list_of n f ≡ list_of n g
unfolding list_of
list_of-same zero f g h = refl
list_of-same (suc n) f g h = ap₂ (λ l x. l ++ (x ∷ [])) (list_of-same n f g (λ k l. h k (omega arith))) (h n (omega arith))

pub map-list_of {ℓ ℓ'} : {A : Type ℓ} {B : Type ℓ'} (f : A → B) (n : ℕ) (g : ℕ → A) → map f (list_of n g) ≡ list_of n (λ k. f (g k))
unfolding list_of
map-list_of f zero g = refl
map-list_of f (suc n) g = map-append f (list_of n g) (g n ∷ []) ∙ ap (λ l. l ++ (f (g n) ∷ [])) (map-list_of f n g)

pub all-list_of {ℓ} : {A : Type ℓ} (P : A → Type 0) (n : ℕ) (f : ℕ → A) → ((k : ℕ) → k < n → P (f k)) → All P (list_of n f)
all-list_of P zero f h = unfold list_of in tt
all-list_of P (suc n) f h = rw list_of-cons (h 0 (omega arith), all-list_of P n (λ k. f (suc k)) (λ k l. h (suc k) (omega arith)))

pub get-list_of {ℓ} : {A : Type ℓ} (n : ℕ) (f : ℕ → A) (d : A) (i : ℕ) → i < n → get_or (list_of n f) i d ≡ f i
get-list_of zero f d i l = absurd (not-suc-le-zero l)
get-list_of (suc n) f d zero l = rw list_of-cons
get-list_of (suc n) f d (suc i) l = rw list_of-cons (get-list_of n (λ k. f (suc k)) d i (le_of_suc-le-suc l))

pub joined-append {ℓ} : {A : Type ℓ} (e : A → List ℕ) (xs ys : List A) → joined e (xs ++ ys) ≡ joined e xs ++ joined e ys
unfolding joined
joined-append e [] ys = refl
joined-append e (x ∷ xs) ys = rw (joined-append e xs ys) (sym (append_assoc (e x) (joined e xs) (joined e ys)))

pub joined-list_of {ℓ} : {A : Type ℓ} (e : A → List ℕ) (f : ℕ → A) (n : ℕ) → joined e (list_of (suc n) f) ≡ joined e (list_of n f) ++ e (f n)
unfolding joined list_of
joined-list_of e f n = joined-append e (list_of n f) (f n ∷ []) ∙ ap (λ (l : List ℕ). joined e (list_of n f) ++ l) (append-nil (e (f n)))

module _ {ℓ} {A : Type ℓ} where
  pub list_of-all : (P : A → Type 0) (n : ℕ) (f : ℕ → A) → All P (list_of n f) → (i : ℕ) → i < n → P (f i)
  list_of-all P n f all i l = subst P (get-list_of n f (f i) i l) (all_in P (list_of n f) all (at_in (list_of n f) i (f i) (rw list_of-length l)))

  pub list_of-next : (R : A → A → Type 0) (n : ℕ) (f : ℕ → A) (d : A)
      → ((i : ℕ) → suc i < length (list_of n f) → R (get_or (list_of n f) i d) (get_or (list_of n f) (suc i) d)) → (i : ℕ) → suc i < n → R (f i) (f (suc i))
  list_of-next R n f d h i l =
      subst₂ R (get-list_of n f d i (omega arith)) (get-list_of n f d (suc i) l) (h i (rw list_of-length l))

  pub list_of-is : (n : ℕ) (f : ℕ → A) (xs : List A) (d : A) → n ≡ length xs → ((i : ℕ) → i < length xs → f i ≡ get_or xs i d) → list_of n f ≡ xs
  list_of-is n f xs d e h =
      ext_get_or d (list_of n f) xs (list_of-length n f ∙ e)
      (λ i l. let m : i < n = omega (arith, list_of-length n f) in get-list_of n f d i m ∙ h i (omega arith))
