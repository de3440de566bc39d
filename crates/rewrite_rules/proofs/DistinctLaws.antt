-- A list without repeats in the order of first occurrence, and the place of an element.
--     Distinct, distinct_append, distinct-map   nothing is there twice: of two lists, and of a list's images
--     Decides                                   a test that says whether two elements are equal
--     added-in, added_out, added-distinct       what is in the list, and that nothing is there twice
--     place-below, place-at                     an element stands at its place
-- Assumes nothing.
use Rattle.ground.proofs.ListLaws.{some_in, some_out}
use Rattle.ground.proofs.BoolLaws.{clash}
use Prim.Native.Nat.{◌<◌}
use mathlib.Core.Path.{◌≡◌, refl, sym}
use mathlib.Core.Logic.{◌⊎◌, inl, inr, ⊎_elim}
use mathlib.Core.Bool.{Bool, true}
use mathlib.Core.List.Memᴰ
use mathlib.Core.List.{List, [], ◌∷◌, ◌++◌, map, Memᴰ}
use lib.ListN.{length, get_or}
use Rattle.ground.specs.Believed.Search.{any}
use Rattle.rewrite_rules.proofs.TableDistinct.{add-cases, place_is, place-below as there-below}
use Rattle.rewrite_rules.specs.Believed.Distinct.{add_new, add_all, place_of}

pub record Decides {A : Type 0} (same : A → A → Bool) : Type 0 where
  pub sound : (x y : A) → same x y ≡ true → x ≡ y
  pub self : (x : A) → same x x ≡ true

-- no element is there twice
abbrev pub Distinct : {A : Type 0} → List A → Type 0
Distinct [] = Unit {0}
Distinct (x ∷ l) = (Memᴰ x l → ⊥) × Distinct l

pub distinct_append : {A : Type 0} (l m : List A) → Distinct l → Distinct m → ((x : A) → Memᴰ x l → Memᴰ x m → ⊥) → Distinct (l ++ m)
distinct_append [] m d e h = e
distinct_append (x ∷ l) m d e h =
    (λ k. ⊎_elim d.0 (h x (Memᴰ.head refl)) (Memᴰ.append_cases l k), distinct_append l m d.1 e (λ y k n. h y (Memᴰ.tail k) n))

pub distinct-map : {A B : Type 0} (f : A → B) (l : List A) → ((x y : A) → Memᴰ x l → Memᴰ y l → f x ≡ f y → x ≡ y) → Distinct l
    → Distinct (map f l)
distinct-map f [] h d = tt
distinct-map f (x ∷ l) h d = (
  λ k.
      let z = Memᴰ.of_map f l k in
      d.0 (Memᴰ.cast (h x z.0 (Memᴰ.head refl) (Memᴰ.tail z.1) (sym z.2)) z.1),
  distinct-map f l (λ a b m n. h a b (Memᴰ.tail m) (Memᴰ.tail n)) d.1,
)

module _ {A : Type 0} {same : A → A → Bool} (decides : Decides same) where
  -- membership is what the test says
  mem-there : (x : A) (l : List A) → Memᴰ x l → any (same x) l ≡ true
  mem-there x l m = some_in (same x) m (decides.self x)

  there-mem : (x : A) (l : List A) → any (same x) l ≡ true → Memᴰ x l
  there-mem x l e = let r = some_out (same x) l e in Memᴰ.cast (decides.sound x r.0 r.2) r.1

  -- the two ways of an addition
  add-ways {ℓ} : (P : List A → Type ℓ) (l : List A) (x : A) → (Memᴰ x l → P l) → ((Memᴰ x l → ⊥) → P (l ++ (x ∷ [])))
      → P (add_new same l x)
  add-ways P l x f g = add-cases same P l x (λ h. f (there-mem x l h)) (λ h. g (λ m. clash _ (mem-there x l m) h))

  add-in : (l : List A) (x y : A) → Memᴰ y l ⊎ (y ≡ x) → Memᴰ y (add_new same l x)
  add-in l x y m =
      add-ways (Memᴰ y) l x (λ k. ⊎_elim (λ n. n) (λ e. Memᴰ.cast e k) m)
      (λ k. ⊎_elim (λ n. Memᴰ.append_left (x ∷ []) n) (λ e. Memᴰ.append_right l (Memᴰ.head e)) m)

  add-out : (l : List A) (x y : A) → Memᴰ y (add_new same l x) → Memᴰ y l ⊎ (y ≡ x)
  add-out l x y =
      add-ways (λ q. Memᴰ y q → Memᴰ y l ⊎ (y ≡ x)) l x (λ _ m. inl m)
      (λ _ m. ⊎_elim inl (λ k. inr (Memᴰ.eq_of_singleton k)) (Memᴰ.append_cases l m))

  pub added-in : (l xs : List A) (y : A) → Memᴰ y l ⊎ Memᴰ y xs → Memᴰ y (add_all same l xs)
  unfolding add_all
  added-in l [] y m = ⊎_elim (λ k. k) (λ k. absurd (Memᴰ.not-nil k)) m
  added-in l (x ∷ xs) y m = added-in (add_new same l x) xs y (⊎_elim (λ k. inl (add-in l x y (inl k))) (λ k. new (Memᴰ.cases_cons k)) m)
    where
      new : (y ≡ x) ⊎ Memᴰ y xs → Memᴰ y (add_new same l x) ⊎ Memᴰ y xs
      new (inl e) = inl (add-in l x y (inr e))
      new (inr k) = inr k

  pub added_out : (l xs : List A) (y : A) → Memᴰ y (add_all same l xs) → Memᴰ y l ⊎ Memᴰ y xs
  unfolding add_all
  added_out l [] y m = inl m
  added_out l (x ∷ xs) y m =
      ⊎_elim (λ k. ⊎_elim inl (λ e. inr (Memᴰ.head e)) (add-out l x y k)) (λ k. inr (Memᴰ.tail k)) (added_out (add_new same l x) xs y m)

  pub added-distinct : (l xs : List A) → Distinct l → Distinct (add_all same l xs)
  unfolding add_all
  added-distinct l [] d = d
  added-distinct l (x ∷ xs) d = added-distinct (add_new same l x) xs (add-ways Distinct l x (λ _. d) (λ n. distinct_append l (x ∷ []) d (Memᴰ.not-nil, tt) (λ y m k. n (Memᴰ.cast (sym (Memᴰ.eq_of_singleton k)) m))))

  pub place-below : (x : A) (l : List A) → Memᴰ x l → place_of same x l < length l
  place-below x l m = there-below same x l (mem-there x l m)

  pub place-at : (x : A) (l : List A) (d : A) → Memᴰ x l → get_or l (place_of same x l) d ≡ x
  place-at x l d m = place_is same decides.sound x l d (mem-there x l m)
