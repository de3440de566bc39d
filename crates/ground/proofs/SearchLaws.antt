-- Laws of bounded search, one for each way that a searching loop can go, and what a search that ended says.
--     any_none, any-more, any-stop    the loop over `any_below`
--     any-turn, any_same              one turn, whatever the test says; tests that agree below the bound
--     any-split, any-blocks           a search in two parts, and block by block
--     any_out, any-no, any-none-of    a number that passes; none does
--     list_any, list_count            some element of a list given by index, and how many; of numbers: count_none, count_turn, count_most, count_same
--     lowest-is, lowest-none, lowest-some, lowest-out, lowest-no    the lowest number that passes, and where there is none
-- Assumes nothing.
use Prim.Native.Nat.{ℕ, zero, suc, ◌+◌, ◌*◌, ◌≤◌, ◌<◌}
use mathlib.Core.Path.{◌≡◌, refl, sym, ap, ap₂, ◌∙◌}
use mathlib.Core.Logic.{⊎_elim}
use mathlib.Core.Bool.{Bool, true, false, ◌||◌, or-true, or-false, or_assoc}
use Rattle.std.proofs.Common.{Option, None, Some}
use mathlib.Core.List.{List, [], ◌∷◌, ◌++◌}
use native.Mathlib.Nat.{add-zero, zero-add, add-suc, mul-zero, mul-suc, not-suc-le-zero, le_of_suc-le-suc, eq-or-lt_of_le, le_refl, lt_trans}
use native.Mathlib.Numerals.{add-one}
use native.Mathlib.Omega.{arith}
use Rattle.ground.specs.Believed.Choice.{pick}
use Rattle.ground.specs.Believed.Search.{any, count_of, any_below, first_there, lowest_below, one, count_below}
use Rattle.ground.specs.Believed.Sequence.{list_of}
use Rattle.ground.proofs.BoolLaws.{pick_true, pick-false, not_yes, clash}

module _ (f : ℕ → Bool) where
  pub any_none : any_below 0 f ≡ false
  unfolding any_below
  any_none = refl

  pub any-more : (i : ℕ) → any_below i f ≡ false → f i ≡ false → any_below (i + 1) f ≡ false
  unfolding any_below
  any-more i h k = rw (add-one i) (rw h k)

  pub any-stop : (n i : ℕ) → i < n → f i ≡ true → any_below n f ≡ true
  unfolding any_below
  any-stop zero i l h = absurd (not-suc-le-zero l)
  any-stop (suc n) i l h =
      ⊎_elim
      (λ (e : i ≡ n). rw (← e) (rw h (or-true (any_below i f))))
      (λ (m : i < n). rw (any-stop n i m h) refl)
      (eq-or-lt_of_le (le_of_suc-le-suc l))

  -- one turn, whatever the test says
  pub any-turn : (i : ℕ) → any_below (i + 1) f ≡ (any_below i f || f i)
  unfolding any_below
  any-turn i = rw (add-one i)

pub any_same : (n : ℕ) (f g : ℕ → Bool) → ((i : ℕ) → i < n → f i ≡ g i) → any_below n f ≡ any_below n g
unfolding any_below
any_same zero f g h = refl
any_same (suc n) f g h = ap₂ ◌||◌ (any_same n f g (λ i l. h i (lt_trans l (le_refl (suc n))))) (h n (le_refl (suc n)))

pub any-split : (m n : ℕ) (f : ℕ → Bool) → any_below (m + n) f ≡ (any_below m f || any_below n (λ j. f (m + j)))
unfolding any_below
any-split m zero f = rw (add-zero m) (sym (or-false (any_below m f)))
any-split m (suc n) f =
    rw (add-suc m n) (ap (λ (b : Bool). b || f (m + n)) (any-split m n f) ∙ or_assoc (any_below m f) (any_below n (λ j. f (m + j))) (f (m + n)))

pub any-blocks : (w n : ℕ) (f : ℕ → Bool) → any_below (w * n) f ≡ any_below n (λ i. any_below w (λ j. f (w * i + j)))
unfolding any_below
any-blocks w zero f = rw (mul-zero w) refl
any-blocks w (suc n) f = rw (mul-suc w n) (any-split (w * n) w f ∙ ap (λ (b : Bool). b || any_below w (λ j. f (w * n + j))) (any-blocks w n f))

pub any_append {ℓ} : {A : Type ℓ} (f : A → Bool) (l m : List A) → any f (l ++ m) ≡ (any f l || any f m)
unfolding any
any_append f [] m = refl
any_append f (x ∷ l) m = ap (λ (b : Bool). f x || b) (any_append f l m) ∙ sym (or_assoc (f x) (any f l) (any f m))

pub list_any {ℓ} : {A : Type ℓ} (f : A → Bool) (n : ℕ) (g : ℕ → A) → any f (list_of n g) ≡ any_below n (λ i. f (g i))
unfolding any any_below list_of
list_any f zero g = refl
list_any f (suc n) g =
    any_append f (list_of n g) (g n ∷ []) ∙ ap₂ ◌||◌ (list_any f n g) (or-false (f (g n)))

-- how many elements and how many numbers pass
pub count-append {ℓ} : {A : Type ℓ} (f : A → Bool) (l m : List A) → count_of f (l ++ m) ≡ count_of f l + count_of f m
unfolding count_of
count-append f [] m = sym (zero-add (count_of f m))
count-append f (x ∷ l) m = go (f x) (count_of f l) (count_of f m) (count-append f l m)
  where
    go : (b : Bool) (c d : ℕ) {a : ℕ} → a ≡ c + d → pick b (suc a) a ≡ pick b (suc c) c + d
    go true c d e = omega arith
    go false c d e = e

pub list_count {ℓ} : {A : Type ℓ} (f : A → Bool) (n : ℕ) (g : ℕ → A) → count_of f (list_of n g) ≡ count_below n (λ i. f (g i))
unfolding count_of count_below list_of
list_count f zero g = refl
list_count f (suc n) g = count-append f (list_of n g) (g n ∷ []) ∙ ap₂ ◌+◌ (list_count f n g) (go (f (g n)))
  where
    go : (b : Bool) → pick b 1 0 ≡ one b
    go true = refl
    go false = refl

module _ (f : ℕ → Bool) where
  pub count_none : 0 ≡ count_below 0 f
  unfolding count_below
  count_none = refl

  pub count_turn : (i : ℕ) → count_below (i + 1) f ≡ count_below i f + one (f i)
  unfolding count_below
  count_turn i = rw (add-one i)

  pub count_most : (n : ℕ) → count_below n f ≤ n
  unfolding count_below
  count_most zero = omega arith
  count_most (suc n) = go (f n) (count_most n)
    where
      go : (b : Bool) → count_below n f ≤ n → count_below n f + one b ≤ suc n
      go true h = omega arith
      go false h = omega arith

-- tests that agree below n
pub count_same : (n : ℕ) (f g : ℕ → Bool) → ((i : ℕ) → i < n → f i ≡ g i) → count_below n f ≡ count_below n g
unfolding count_below
count_same zero f g e = refl
count_same (suc n) f g e = ap₂ ◌+◌ (count_same n f g (λ i l. e i (omega arith))) (ap one (e n (omega arith)))

pub any_out : (n : ℕ) (f : ℕ → Bool) → any_below n f ≡ true → (i : ℕ) × (i < n) × (f i ≡ true)
unfolding any_below
any_out zero f h = let z : ◌≡◌ {A = ℕ} 0 1 = cc in absurd (omega arith)
any_out (suc n) f h = go (any_below n f) refl (any_out n f) h
  where
    go : (b : Bool) → any_below n f ≡ b → (any_below n f ≡ true → (i : ℕ) × (i < n) × (f i ≡ true)) → (b || f n) ≡ true → (i : ℕ) × (i < suc n) × (f i ≡ true)
    go true e before k = let r = before e in (r.0, lt_trans r.1 (le_refl (suc n)), r.2)
    go false e before k = (n, le_refl (suc n), k)

pub any-no : (n : ℕ) (f : ℕ → Bool) → any_below n f ≡ false → (i : ℕ) → i < n → f i ≡ false
any-no n f e i l = not_yes (f i) (λ h. clash (any_below n f) (any-stop f n i l h) e)

pub any-none-of : (n : ℕ) (f : ℕ → Bool) → ((i : ℕ) → i < n → f i ≡ false) → any_below n f ≡ false
unfolding any_below
any-none-of zero f h = refl
any-none-of (suc n) f h = rw (any-none-of n f (λ i l. h i (lt_trans l (le_refl (suc n)))), h n (le_refl (suc n))) refl

module _ (f : ℕ → Bool) where
  pub lowest-none : (n : ℕ) → ((i : ℕ) → i < n → f i ≡ false) → lowest_below n f ≡ None
  unfolding lowest_below first_there
  lowest-none zero h = refl
  lowest-none (suc n) h =
      ap₂ first_there (lowest-none n (λ i l. h i (lt_trans l (le_refl (suc n))))) (pick-false (f n) (Some n) None (h n (le_refl (suc n))))

  pub lowest-is : (n k : ℕ) → k < n → f k ≡ true → ((i : ℕ) → i < k → f i ≡ false) → lowest_below n f ≡ Some k
  unfolding lowest_below first_there
  lowest-is zero k l e h = absurd (not-suc-le-zero l)
  lowest-is (suc n) k l e h =
      ⊎_elim
      (λ (q : k ≡ n). rw (← q) (ap₂ first_there (lowest-none k h) (pick_true (f k) (Some k) None e)))
      (λ (m : k < n). ap (λ (o : Option ℕ). first_there o (pick (f n) (Some n) None)) (lowest-is n k m e h))
      (eq-or-lt_of_le (le_of_suc-le-suc l))

  -- there is a lowest one exactly when one passes
  pub record Lowest (n : ℕ) : Type 0 where
    pub number : ℕ
    pub below : number < n
    pub is : lowest_below n f ≡ Some number
    pub passes : f number ≡ true

  pub lowest-some : (n : ℕ) → any_below n f ≡ true → Lowest n
  unfolding any_below lowest_below first_there
  lowest-some zero h = let z : ◌≡◌ {A = ℕ} 0 1 = cc in absurd (omega arith)
  lowest-some (suc n) h = go (any_below n f) refl (lowest-some n) h
    where
      go : (b : Bool) → any_below n f ≡ b → (any_below n f ≡ true → Lowest n) → (b || f n) ≡ true → Lowest (suc n)
      go true e before k =
          let r = before e in
          unfold lowest_below in
          record {
            number = r.number;
            below = lt_trans r.below (le_refl (suc n));
            is = ap (λ (o : Option ℕ). first_there o (pick (f n) (Some n) None)) r.is;
            passes = r.passes;
          }
      go false e before k =
          unfold lowest_below in
          record { number = n; below = le_refl (suc n); is = ap₂ first_there (lowest-none n (any-no n f e)) (pick_true (f n) (Some n) None k); passes = k }

  -- what the lowest one is, and that there is none
  pub lowest-no : (n : ℕ) → lowest_below n f ≡ None → (i : ℕ) → i < n → f i ≡ false
  lowest-no n e i l = not_yes (f i) (λ h. differ (lowest-some n (any-stop f n i l h)))
    where
      differ : Lowest n → ⊥
      differ r = let q = r.is in let z : ◌≡◌ {A = ℕ} 0 1 = cc in omega arith

  pub lowest-out : (n k : ℕ) → lowest_below n f ≡ Some k → (k < n) × (f k ≡ true) × ((i : ℕ) → i < k → f i ≡ false)
  unfolding lowest_below first_there
  lowest-out zero k e = let z : ◌≡◌ {A = ℕ} 0 1 = cc in absurd (omega arith)
  lowest-out (suc n) k e = before (lowest-out n k) (lowest_below n f) refl e
    where
      here : lowest_below n f ≡ None → (b : Bool) → f n ≡ b → pick b (Some n) None ≡ Some k → (k < suc n) × (f k ≡ true) × ((i : ℕ) → i < k → f i ≡ false)
      here o true h q = let z : n ≡ k = cc in (omega arith, rw (← z) h, λ i l. lowest-no n o i (omega arith))
      here o false h q = let z : ◌≡◌ {A = ℕ} 0 1 = cc in absurd (omega arith)

      before : (lowest_below n f ≡ Some k → (k < n) × (f k ≡ true) × ((i : ℕ) → i < k → f i ≡ false)) → (o : Option ℕ) → lowest_below n f ≡ o
          → first_there o (pick (f n) (Some n) None) ≡ Some k → (k < suc n) × (f k ≡ true) × ((i : ℕ) → i < k → f i ≡ false)
      before ih None h q = here h (f n) refl q
      before ih (Some j) h q = let r = ih (h ∙ q) in (omega (arith, r.0), r.1, r.2)

-- the lowest one by cases, and for tests that agree
pub lowest-cases {ℓ} : (P : Option ℕ → Type ℓ) (n : ℕ) (f : ℕ → Bool) → ((k : ℕ) → k < n → f k ≡ true → P (Some k))
    → (((k : ℕ) → k < n → f k ≡ true → ⊥) → P None) → P (lowest_below n f)
unfolding lowest_below first_there
lowest-cases P zero f found no_one = no_one (λ k l h. not-suc-le-zero l)
lowest-cases P (suc n) f found no_one =
    lowest-cases (λ o. P (first_there o (pick (f n) (Some n) None))) n f (λ k l h. found k (lt_trans l (le_refl (suc n))) h) (λ h. last h (f n) refl)
  where
    last : ((k : ℕ) → k < n → f k ≡ true → ⊥) → (b : Bool) → f n ≡ b → P (pick b (Some n) None)
    last h true e = found n (le_refl (suc n)) e
    last h false e =
        no_one
        (λ k l g. ⊎_elim (λ (q : k ≡ n). clash (f k) g (ap f q ∙ e)) (λ (q : k < n). h k q g) (eq-or-lt_of_le (le_of_suc-le-suc l)))

pub lowest-same : (n : ℕ) (f g : ℕ → Bool) → ((i : ℕ) → i < n → f i ≡ g i) → lowest_below n f ≡ lowest_below n g
unfolding lowest_below
lowest-same zero f g h = refl
lowest-same (suc n) f g h =
    ap₂ (λ (o : Option ℕ) (b : Bool). first_there o (pick b (Some n) None)) (lowest-same n f g (λ i l. h i (lt_trans l (le_refl (suc n)))))
    (h n (le_refl (suc n)))
