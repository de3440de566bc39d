-- Counting the elements of a list that pass.
--     without        the list without one element that passes
--     count-one      where at most one passes, any two that do are equal
--     count-exactly  of a list without repeats just one passes
--     pigeon         elements that are matched with others, one to one, are no more than those
--     count-single   of elements by index, of which no two pass, at most one does
--     count-like     elements by index that pass as those of a list do are as many
-- Assumes nothing.
use Prim.Native.Nat.{ℕ, zero, suc, ◌≤◌, ◌<◌, zero-le}
use mathlib.Core.Path.{◌≡◌, refl, sym, ap, ◌∙◌, subst}
use mathlib.Core.Logic.{◌⊎◌, inl, inr, ⊎_elim}
use mathlib.Core.Bool.{Bool, true, false}
use mathlib.Core.List.Memᴰ
use mathlib.Core.List.{List, [], ◌∷◌, Memᴰ}
use native.Mathlib.Omega.{arith}
use lib.ListN.{length, get_or}
use Rattle.ground.specs.Believed.Search.{count_of}
use Rattle.ground.specs.Believed.Choice.{pick}
use Rattle.ground.specs.Believed.Sequence.{list_of}
use Rattle.ground.proofs.BoolLaws.{not_yes}
use Rattle.ground.proofs.SequenceLaws.{list_of-cons}
use Rattle.rewrite_rules.proofs.DistinctLaws.{Distinct}

module _ {A : Type 0} (f : A → Bool) where
  -- a list without x, with one less that passes
  record Without (x : A) (l : List A) : Type 0 where
    rest : List A
    fewer : count_of f l ≡ suc (count_of f rest)
    others : (y : A) → Memᴰ y l → (y ≡ x) ⊎ Memᴰ y rest

  without : (x : A) (l : List A) → Memᴰ x l → f x ≡ true → Without x l
  unfolding count_of
  without x [] m h = absurd (Memᴰ.not-nil m)
  without x (y ∷ l) m h = ⊎_elim here (λ k. later (without x l k h)) (Memᴰ.cases_cons m)
    where
      here : x ≡ y → Without x (y ∷ l)
      here e = record { rest = l; fewer = rw (ap f (sym e) ∙ h); others = λ z n. ⊎_elim (λ q. inl (q ∙ sym e)) inr (Memᴰ.cases_cons n) }

      one_less : (a b : ℕ) (c : Bool) → a ≡ suc b → pick c (suc a) a ≡ suc (pick c (suc b) b)
      one_less a b true e = omega arith
      one_less a b false e = omega arith

      later : Without x l → Without x (y ∷ l)
      later r =
          record {
            rest = y ∷ r.rest;
            fewer = one_less _ _ (f y) r.fewer;
            others = λ z n.
                ⊎_elim (λ q. inr (Memᴰ.head q)) (λ k. ⊎_elim inl (λ j. inr (Memᴰ.tail j)) (r.others z k)) (Memᴰ.cases_cons n);
          }

  pub count-one : (l : List A) (x y : A) → count_of f l ≤ 1 → Memᴰ x l → Memᴰ y l → f x ≡ true → f y ≡ true → x ≡ y
  count-one l x y h m n p q =
      let r : Without x l = without x l m p in
      ⊎_elim sym (λ k. let s : Without y r.rest = without y r.rest k q in absurd (omega (arith, r.fewer, s.fewer))) (r.others y n)

-- an element of bs that passes and that a is matched with
pub record Match {A B : Type 0} (g : B → Bool) (R : A → B → Type 0) (bs : List B) (a : A) : Type 0 where
  pub partner : B
  pub there : Memᴰ partner bs
  pub passes : g partner ≡ true
  pub matched : R a partner

module _ {A B : Type 0} (f : A → Bool) (g : B → Bool) (R : A → B → Type 0) (one-to-one : (a a' : A) (b : B) → R a b → R a' b → a ≡ a') where
  pub pigeon : (xs : List A) → Distinct xs → (bs : List B) → ((a : A) → Memᴰ a xs → f a ≡ true → Match g R bs a) → count_of f xs ≤ count_of g bs
  unfolding count_of
  pigeon [] d bs h = zero-le
  pigeon (a ∷ xs) d bs h = go (λ q k. pigeon xs d.1 q k) (f a) refl
    where
      left : (p : Match g R bs a) (r : Without g p.partner bs) (x : A) → Memᴰ x xs → Match g R bs x → Match g R r.rest x
      left p r x m q =
          ⊎_elim
          (λ e. absurd (d.0 (Memᴰ.cast (one-to-one a x p.partner p.matched (subst (R x) e q.matched)) m)))
          (λ k. record { partner = q.partner; there = k; passes = q.passes; matched = q.matched })
          (r.others q.partner q.there)

      go : ((q : List B) → ((x : A) → Memᴰ x xs → f x ≡ true → Match g R q x) → count_of f xs ≤ count_of g q) → (b : Bool) → f a ≡ b
          → pick b (suc (count_of f xs)) (count_of f xs) ≤ count_of g bs
      go rest true e =
          let p : Match g R bs a = h a (Memᴰ.head refl) e in
          let r : Without g p.partner bs = without g p.partner bs p.there p.passes in
          omega (arith, r.fewer, rest r.rest (λ x m k. left p r x m (h x (Memᴰ.tail m) k)))
      go rest false e = rest bs (λ x m k. h x (Memᴰ.tail m) k)

-- of a list without repeats, x passes and nothing else does
pub count-exactly : {A : Type 0} (f : A → Bool) (l : List A) → Distinct l → (x : A) → Memᴰ x l → f x ≡ true
    → ((y : A) → Memᴰ y l → f y ≡ true → y ≡ x) → count_of f l ≡ 1
unfolding count_of
count-exactly f l d x m h alone =
    let some_one : Without f x l = without f x l m h in
    let no_more : count_of f l ≤ 1
    = pigeon f (λ z. true) (λ y z. y ≡ z) (λ a b c p q. p ∙ sym q) l d (x ∷ [])
    (λ y n k. record { partner = x; there = Memᴰ.head refl; passes = refl; matched = alone y n k }) in
    omega (arith, some_one.fewer)

-- elements by index
module _ {A : Type 0} (f : A → Bool) where
  count_none : (n : ℕ) (g : ℕ → A) → ((i : ℕ) → i < n → f (g i) ≡ false) → count_of f (list_of n g) ≡ 0
  unfolding count_of list_of
  count_none zero g h = refl
  count_none (suc n) g h =
      rw (list_of-cons n g) (rw (h 0 (omega arith)) (count_none n (λ k. g (suc k)) (λ i l. h (suc i) (omega arith))))

  pub count-single : (n : ℕ) (g : ℕ → A) → ((i j : ℕ) → i < n → j < n → f (g i) ≡ true → f (g j) ≡ true → i ≡ j) → count_of f (list_of n g) ≤ 1
  unfolding count_of list_of
  count-single zero g h = zero-le
  count-single (suc n) g h =
      rw (list_of-cons n g)
      (go (f (g 0)) refl (count-single n (λ k. g (suc k)) (λ i j a b p q. let e : suc i ≡ suc j = h (suc i) (suc j) (omega arith) (omega arith) p q in omega (arith, e))))
    where
      go : (b : Bool) → f (g 0) ≡ b → count_of f (list_of n (λ k. g (suc k))) ≤ 1
          → pick b (suc (count_of f (list_of n (λ k. g (suc k))))) (count_of f (list_of n (λ k. g (suc k)))) ≤ 1
      go true e rest =
          let z : count_of f (list_of n (λ k. g (suc k))) ≡ 0
          = count_none n (λ k. g (suc k)) (λ i l. not_yes _ (λ q. let k : 0 ≡ suc i = h 0 (suc i) (omega arith) (omega arith) e q in absurd (omega (arith, k)))) in
          omega (arith, z)
      go false e rest = rest

  pub count-like : {B : Type 0} (f' : B → Bool) (d : B) (xs : List B) (g : ℕ → A) → ((i : ℕ) → i < length xs → f (g i) ≡ f' (get_or xs i d))
      → count_of f (list_of (length xs) g) ≡ count_of f' xs
  unfolding count_of list_of
  count-like f' d [] g h = refl
  count-like f' d (x ∷ xs) g h =
      rw (list_of-cons (length xs) g)
      (rw (h 0 (omega arith)) (ap (λ (n : ℕ). pick (f' x) (suc n) n) (count-like f' d xs (λ k. g (suc k)) (λ i l. h (suc i) (omega arith)))))
