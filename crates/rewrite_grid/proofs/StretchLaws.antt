-- Stretches, and the fields that they have.
--     kinds-none, kinds-more                    the kinds of the fields of no stretch, and with one more
--     kinds-same, kinds-stored                  of stretches that are as they were; with one that is stored after them
--     fields-more, fields-mono, fields-least    how many fields the first stretches have
--     fields_from, fields_split                  the fields of the stretches from a place on
--     field_in, stretch-each                    the kind of a field is that of its stretch; what all fields meet, each stretch does
--     ends-rise                                 the places where eras begin, in order
-- Assumes nothing.
use Prim.Native.Nat.{ℕ, zero, suc, ◌+◌, ◌-◌, ◌≤◌, ◌<◌}
use mathlib.Core.Path.{◌≡◌, refl, sym, ap, ap₂, ◌∙◌, subst}
use mathlib.Core.List.{List, [], ◌++◌, append_assoc, append-nil}
use native.Mathlib.Nat.{add-zero}
use native.Mathlib.Numerals.{add-one}
use native.Mathlib.Omega.{arith}
use lib.ListN.{length, get_or, set, replicate, length-append, length-replicate, get_or-replicate, get_or-append}
use lib.Seq.{get_or-append-add, get_or-set_same, get_or-set_other}
use Rattle.ground.specs.Believed.Sequence.{All}
use Rattle.ground.proofs.ListLaws.{all_in, at_in}
use Rattle.rewrite_grid.specs.Stretches.{field_kinds}

pub kinds-none : (kinds lens : List ℕ) → field_kinds kinds lens 0 ≡ []
unfolding field_kinds
kinds-none kinds lens = refl

pub kinds-more : (kinds lens : List ℕ) (n : ℕ) → field_kinds kinds lens (n + 1) ≡ field_kinds kinds lens n ++ replicate (get_or lens n 0) (get_or kinds n 0)
unfolding field_kinds
kinds-more kinds lens n = ap (field_kinds kinds lens) (add-one n)

module _ (kinds lens kinds' lens' : List ℕ) where
  pub kinds-same : (n : ℕ) → ((j : ℕ) → j < n → get_or kinds' j 0 ≡ get_or kinds j 0) → ((j : ℕ) → j < n → get_or lens' j 0 ≡ get_or lens j 0)
      → field_kinds kinds' lens' n ≡ field_kinds kinds lens n
  unfolding field_kinds
  kinds-same zero k l = refl
  kinds-same (suc n) k l =
      ap₂ ◌++◌ (kinds-same n (λ j h. k j (omega arith)) (λ j h. l j (omega arith))) (ap₂ (λ (a b : ℕ). replicate a b) (l n (omega arith)) (k n (omega arith)))

pub kinds-stored : (kinds lens : List ℕ) (n k l : ℕ) → n < length kinds → n < length lens
    → field_kinds (set kinds n k) (set lens n l) (n + 1) ≡ field_kinds kinds lens n ++ replicate l k
kinds-stored kinds lens n k l hk hl =
    kinds-more (set kinds n k) (set lens n l) n
    ∙ ap₂ ◌++◌
    (kinds-same kinds lens (set kinds n k) (set lens n l) n (λ j h. get_or-set_other kinds n j k 0 (λ e. omega arith)) (λ j h. get_or-set_other lens n j l 0 (λ e. omega arith)))
    (ap₂ (λ (a b : ℕ). replicate a b) (get_or-set_same lens n l 0 hl) (get_or-set_same kinds n k 0 hk))

module _ (kinds lens : List ℕ) where
  -- the kinds of the fields of n stretches from the place a on
  abbrev pub fields_from : ℕ → ℕ → List ℕ
  fields_from a zero = []
  fields_from a (suc n) = replicate (get_or lens a 0) (get_or kinds a 0) ++ fields_from (suc a) n

  pub fields-more : (n : ℕ) → length (field_kinds kinds lens (suc n)) ≡ length (field_kinds kinds lens n) + get_or lens n 0
  unfolding field_kinds
  fields-more n = length-append (field_kinds kinds lens n) _ ∙ ap (λ (k : ℕ). length (field_kinds kinds lens n) + k) (length-replicate (get_or lens n 0) (get_or kinds n 0))

  -- the fields of the first stretches, then those of the others
  fields-add : (a n : ℕ) → field_kinds kinds lens (a + n) ≡ field_kinds kinds lens a ++ fields_from a n
  unfolding field_kinds
  fields-add a zero = ap (field_kinds kinds lens) (add-zero a) ∙ sym (append-nil (field_kinds kinds lens a))
  fields-add a (suc n) =
      ap (field_kinds kinds lens) (let q : a + suc n ≡ suc a + n = omega arith in q)
      ∙ fields-add (suc a) n
      ∙ append_assoc (field_kinds kinds lens a) (replicate (get_or lens a 0) (get_or kinds a 0)) (fields_from (suc a) n)

  pub fields_split : (a b : ℕ) → a ≤ b → field_kinds kinds lens b ≡ field_kinds kinds lens a ++ fields_from a (b - a)
  fields_split a b h = ap (field_kinds kinds lens) (let q : b ≡ a + (b - a) = omega arith in q) ∙ fields-add a (b - a)

  pub fields-mono : (a b : ℕ) → a ≤ b → length (field_kinds kinds lens a) ≤ length (field_kinds kinds lens b)
  fields-mono a b h = omega (arith, ap length (fields_split a b h), length-append (field_kinds kinds lens a) (fields_from a (b - a)))

  -- each field of stretch j has its kind
  pub field_in : (j n i : ℕ) → j < n → i < get_or lens j 0 → get_or (field_kinds kinds lens n) (length (field_kinds kinds lens j) + i) 0 ≡ get_or kinds j 0
  field_in j n i h k =
      let here = replicate (get_or lens j 0) (get_or kinds j 0) in
      let later = fields_from (suc j) (n - suc j) in
      ap (λ (l : List ℕ). get_or l (length (field_kinds kinds lens j) + i) 0)
      (fields_split j n (omega arith) ∙ ap (λ (m : ℕ). field_kinds kinds lens j ++ fields_from j m) (let q : n - j ≡ suc (n - suc j) = omega arith in q))
      ∙ get_or-append-add (field_kinds kinds lens j) (here ++ later) i 0
      ∙ get_or-append here later 0 i (omega (arith, length-replicate (get_or lens j 0) (get_or kinds j 0)))
      ∙ get_or-replicate (get_or lens j 0) i (get_or kinds j 0) 0 k

  -- and so what all fields meet, the kind of each stretch does
  pub stretch-each : (P : ℕ → Type 0) (n : ℕ) → All P (field_kinds kinds lens n) → ((j : ℕ) → j < n → 0 < get_or lens j 0) → (j : ℕ) → j < n → P (get_or kinds j 0)
  stretch-each P n all some j h =
      let room : length (field_kinds kinds lens j) + 0 < length (field_kinds kinds lens n) = omega (arith, some j h, fields-more j, fields-mono (suc j) n h) in
      subst P (field_in j n 0 h (some j h)) (all_in P (field_kinds kinds lens n) all (at_in (field_kinds kinds lens n) (length (field_kinds kinds lens j) + 0) 0 room))

  -- no more stretches than fields
  pub fields-least : (n : ℕ) → ((j : ℕ) → j < n → 0 < get_or lens j 0) → n ≤ length (field_kinds kinds lens n)
  fields-least zero some = omega arith
  fields-least (suc n) some = omega (arith, fields-least n (λ j h. some j (omega arith)), fields-more n, some n (omega arith))

module _ (ends : List ℕ) (n : ℕ) (rise : (e : ℕ) → e < n → get_or ends e 0 ≤ get_or ends (e + 1) 0) where
  rise-by : (a d : ℕ) → a + d ≤ n → get_or ends a 0 ≤ get_or ends (a + d) 0
  rise-by a zero h = rw (add-zero a) (omega arith)
  rise-by a (suc d) h =
      let q : a + suc d ≡ a + d + 1 = omega arith in
      rw q (omega (arith, rise-by a d (omega arith), rise (a + d) (omega arith)))

  pub ends-rise : (a b : ℕ) → a ≤ b → b ≤ n → get_or ends a 0 ≤ get_or ends b 0
  ends-rise a b h k = subst (λ (m : ℕ). get_or ends a 0 ≤ get_or ends m 0) (let q : a + (b - a) ≡ b = omega arith in q) (rise-by a (b - a) (omega arith))
