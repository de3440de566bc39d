-- Laws of lists without repeats, in the order of first occurrence, and of the place of an element. An element is there when the test for the
-- same one passes somewhere in the list.
--     there-place, place-below, place-most, place_is    the place of an element, and what stands at it
--     place-more, place-stays, place-skip               elements at the end change no place; others in front move it
--     add-found, add-end, add-length, add-there, place-add    one element: which way it goes, and its place, which is where it was looked for
--     add_all-all, add_all-there, add_all-length           many: what holds of all; that each is there; how many
--     add_all-append, add_all-skip                        one list after the other; a list in which none of the others is there
-- Assumes nothing.
use Rattle.ground.proofs.ListLaws.{all_append}
use Rattle.ground.proofs.SearchLaws.{any_append}
use Prim.Native.Nat.{ℕ, suc, ◌+◌, ◌≤◌, ◌<◌}
use mathlib.Core.Path.{◌≡◌, refl, sym, ap, ◌∙◌}
use mathlib.Core.Bool.{Bool, true, false, ◌||◌, or-true}
use mathlib.Core.List.{List, [], ◌∷◌, ◌++◌, append-nil, append_assoc}
use native.Mathlib.Omega.{arith}
use borrow.Author.Tests.{ltb-true, lt-ltb, le-ltb}
use lib.Dec.{ltb}
use lib.ListN.{length, get_or, length-append}
use Rattle.ground.specs.Believed.Choice.{pick}
use Rattle.ground.specs.Believed.Search.{any}
use Rattle.ground.specs.Believed.Sequence.{All}
use Rattle.ground.proofs.BoolLaws.{ltb_iff, pick_true, pick-false}
use Rattle.rewrite_rules.specs.Believed.Distinct.{add_new, add_all, place_of}

module _ {A : Type 0} (same : A → A → Bool) where
  -- x is there
  abbrev pub there : A → List A → Bool
  there x l = any (same x) l

  -- an element that is there stays there when the list grows, and keeps its place
  pub there-more : (x : A) (l m : List A) → there x l ≡ true → there x (l ++ m) ≡ true
  there-more x l m h = any_append (same x) l m ∙ rw h

  pub place-more : (x : A) (l m : List A) → there x l ≡ true → place_of same x (l ++ m) ≡ place_of same x l
  unfolding place_of any
  place-more x [] m h = let z : ◌≡◌ {A = ℕ} 0 1 = cc in absurd (omega arith)
  place-more x (y ∷ l) m h = go (same x y) h (place-more x l m)
    where
      go : (b : Bool) → (b || there x l) ≡ true → (there x l ≡ true → place_of same x (l ++ m) ≡ place_of same x l)
          → pick b 0 (suc (place_of same x (l ++ m))) ≡ pick b 0 (suc (place_of same x l))
      go true h ih = refl
      go false h ih = ap suc (ih h)

  -- an element is there exactly when its place is below the length; where it is not there, its place is the end
  pub there-place : (x : A) (l : List A) → there x l ≡ ltb (place_of same x l) (length l)
  unfolding place_of any
  there-place x [] = refl
  there-place x (y ∷ l) = go (same x y) (there-place x l)
    where
      go : (b : Bool) → there x l ≡ ltb (place_of same x l) (length l) → (b || there x l) ≡ ltb (pick b 0 (suc (place_of same x l))) (suc (length l))
      go true h = sym (lt-ltb 0 (suc (length l)) (omega arith))
      go false h = h ∙ ltb_iff (place_of same x l) (length l) (suc (place_of same x l)) (suc (length l)) (λ k. omega arith) (λ k. omega arith)

  pub place-below : (x : A) (l : List A) → there x l ≡ true → place_of same x l < length l
  place-below x l h = ltb-true _ _ (sym (there-place x l) ∙ h)

  pub place-most : (x : A) (l : List A) → place_of same x l ≤ length l
  unfolding place_of
  place-most x [] = omega arith
  place-most x (y ∷ l) = go (same x y) (place-most x l)
    where
      go : (b : Bool) → place_of same x l ≤ length l → pick b 0 (suc (place_of same x l)) ≤ suc (length l)
      go true h = omega arith
      go false h = omega arith

  pub place_is : ((x y : A) → same x y ≡ true → x ≡ y) → (x : A) (l : List A) (d : A) → there x l ≡ true → get_or l (place_of same x l) d ≡ x
  unfolding place_of any
  place_is eq x [] d h = let z : ◌≡◌ {A = ℕ} 0 1 = cc in absurd (omega arith)
  place_is eq x (y ∷ l) d h = go (same x y) refl h (place_is eq x l d)
    where
      go : (b : Bool) → same x y ≡ b → (b || there x l) ≡ true → (there x l ≡ true → get_or l (place_of same x l) d ≡ x)
          → get_or (y ∷ l) (pick b 0 (suc (place_of same x l))) d ≡ x
      go true e h ih = sym (eq x y e)
      go false e h ih = ih h

  -- elements in front that are others
  pub place-skip : (x : A) (l m : List A) → there x l ≡ false → place_of same x (l ++ m) ≡ length l + place_of same x m
  unfolding place_of any
  place-skip x [] m h = omega arith
  place-skip x (y ∷ l) m h = go (same x y) h (place-skip x l m)
    where
      go : (b : Bool) → (b || there x l) ≡ false → (there x l ≡ false → place_of same x (l ++ m) ≡ length l + place_of same x m)
          → pick b 0 (suc (place_of same x (l ++ m))) ≡ suc (length l) + place_of same x m
      go true h ih = let z : ◌≡◌ {A = ℕ} 0 1 = cc in absurd (omega arith)
      go false h ih = omega (arith, ih h)

  -- an element is there already, or comes to the end
  pub add-cases {ℓ} : (P : List A → Type ℓ) (l : List A) (x : A) → (there x l ≡ true → P l) → (there x l ≡ false → P (l ++ (x ∷ []))) → P (add_new same l x)
  unfolding add_new
  add-cases P l x f g = go (there x l) refl
    where
      go : (b : Bool) → there x l ≡ b → P (pick b l (l ++ (x ∷ [])))
      go true e = f e
      go false e = g e

  -- which of the two, by the place
  pub add-found : (l : List A) (x : A) → place_of same x l < length l → add_new same l x ≡ l
  unfolding add_new
  add-found l x h = pick_true (there x l) _ _ (there-place x l ∙ lt-ltb _ _ h)

  pub add-end : (l : List A) (x : A) → length l ≤ place_of same x l → add_new same l x ≡ l ++ (x ∷ [])
  unfolding add_new
  add-end l x h = pick-false (there x l) _ _ (there-place x l ∙ le-ltb _ _ h)

  pub add-length : (l : List A) (x : A) → (length l ≤ length (add_new same l x)) × (length (add_new same l x) ≤ suc (length l))
  add-length l x =
      add-cases (λ (q : List A). (length l ≤ length q) × (length q ≤ suc (length l))) l x (λ h. (omega arith, omega arith))
      (λ h. let e = length-append l (x ∷ []) in (omega arith, omega arith))

  add-prefix : (l : List A) (x : A) → (m : List A) × (add_new same l x ≡ l ++ m)
  add-prefix l x = add-cases (λ (q : List A). (m : List A) × (q ≡ l ++ m)) l x (λ h. ([], sym (append-nil l))) (λ h. (x ∷ [], refl))

  -- what is written stays: the list so far is the beginning of the list at the end
  pub add_all-prefix : (l xs : List A) → (m : List A) × (add_all same l xs ≡ l ++ m)
  unfolding add_all
  add_all-prefix l [] = ([], sym (append-nil l))
  add_all-prefix l (x ∷ xs) =
      let s = add-prefix l x in
      let r = add_all-prefix (add_new same l x) xs in
      (s.0 ++ r.0, r.1 ∙ ap (λ (q : List A). q ++ r.0) s.1 ∙ append_assoc l s.0 r.0)

  pub add_all-keeps : (x : A) (l xs : List A) → there x l ≡ true → there x (add_all same l xs) ≡ true
  add_all-keeps x l xs h = let r = add_all-prefix l xs in rw r.1 (there-more x l r.0 h)

  pub place-stays : (x : A) (l xs : List A) → there x l ≡ true → place_of same x (add_all same l xs) ≡ place_of same x l
  place-stays x l xs h = let r = add_all-prefix l xs in rw r.1 (place-more x l r.0 h)

  pub add_all-all : (P : A → Type 0) (l xs : List A) → All P l → All P xs → All P (add_all same l xs)
  unfolding add_all
  add_all-all P l [] p q = p
  add_all-all P l (x ∷ xs) p q =
      add_all-all P (add_new same l x) xs (add-cases (All P) l x (λ h. p) (λ h. all_append P l (x ∷ []) p (q.0, tt))) q.1

  pub add_all-length : (l xs : List A) → length (add_all same l xs) ≤ length l + length xs
  unfolding add_all
  add_all-length l [] = omega arith
  add_all-length l (x ∷ xs) = omega (arith, add_all-length (add_new same l x) xs, (add-length l x).1)

  pub add_all-append : (l xs ys : List A) → add_all same l (xs ++ ys) ≡ add_all same (add_all same l xs) ys
  unfolding add_all
  add_all-append l [] ys = refl
  add_all-append l (x ∷ xs) ys = add_all-append (add_new same l x) xs ys

  -- a list in which none of the others is there
  add-skip : (x : A) (l m : List A) → there x l ≡ false → add_new same (l ++ m) x ≡ l ++ add_new same m x
  unfolding add_new
  add-skip x l m h = rw (any_append (same x) l m, h) (go (there x m))
    where
      go : (b : Bool) → pick b (l ++ m) (l ++ m ++ (x ∷ [])) ≡ l ++ pick b m (m ++ (x ∷ []))
      go true = refl
      go false = append_assoc l m (x ∷ [])

  pub add_all-skip : (l m xs : List A) → All (λ (x : A). there x l ≡ false) xs → add_all same (l ++ m) xs ≡ l ++ add_all same m xs
  unfolding add_all
  add_all-skip l m [] h = refl
  add_all-skip l m (x ∷ xs) h = rw (add-skip x l m h.0) (add_all-skip l (add_new same m x) xs h.1)

  module _ (refl-same : (x : A) → same x x ≡ true) where
    there-end : (l : List A) (x : A) → there x (l ++ (x ∷ [])) ≡ true
    unfolding any
    there-end l x = any_append (same x) l (x ∷ []) ∙ rw (refl-same x) (or-true (there x l))

    pub add-there : (l : List A) (x : A) → there x (add_new same l x) ≡ true
    add-there l x = add-cases (λ (q : List A). there x q ≡ true) l x (λ h. h) (λ h. there-end l x)

    -- the place of what is added is where it was looked for: past the end where it was not there
    pub place-add : (l : List A) (x : A) → place_of same x (add_new same l x) ≡ place_of same x l
    unfolding place_of
    place-add l x =
        add-cases (λ (q : List A). place_of same x q ≡ place_of same x l) l x (λ h. refl)
        (λ h. place-skip x l (x ∷ []) h ∙ rw (refl-same x) (sym (place-skip x l [] h) ∙ ap (place_of same x) (append-nil l)))

    pub add_all-there : (l xs : List A) → All (λ (x : A). there x (add_all same l xs) ≡ true) xs
    unfolding add_all
    add_all-there l [] = tt
    add_all-there l (x ∷ xs) = (add_all-keeps x (add_new same l x) xs (add-there l x), add_all-there (add_new same l x) xs)
