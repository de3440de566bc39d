-- A row and the one after it, byte by byte: by role, then number, then hours, the row after is not above where the rise is 0.
--     rise-joined                             a rise as two numbers of which one is 0
--     falls-zero, byte-one                    the rise from a row to the next is 0 exactly when the next is not above; a test as a number
--     falls-yes, falls-no                     the same by their places in the order
--     counted, counted-one, counted-rows      the positions of a block, of which every third counts
--     rest-falls, rest-ascends                all rows, once those left over are looked at
-- Assumes nothing.
use Prim.Native.Nat.{ℕ, ◌+◌, ◌*◌, ◌-◌, ◌/◌, ◌≤◌, ◌<◌}
use mathlib.Core.Path.{◌≡◌, refl, sym, ap, ap₂, ◌∙◌}
use mathlib.Core.Logic.{⊎_elim}
use mathlib.Core.Bool.{Bool, true, false, ◌&&◌, ◌||◌, or-true, or-false}
use mathlib.Core.List.{List}
use native.Mathlib.Omega.{arith}
use borrow.Author.Tests.{le-leb, lt-leb, eq-eqb, ne_eqb, eqb-true}
use mir.Val.{bool_byte}
use lib.Bits.{bit_and, bit_or, or_zero_l, or_zero_r}
use lib.Dec.{leb, eqb}
use lib.ListN.{get_or}
use Rattle.ground.specs.Believed.Choice.{pick}
use Rattle.ground.specs.Believed.Search.{any_below, one}
use Rattle.ground.proofs.BoolLaws.{lt-or-le, pick_true, pick-false}
use Rattle.ground.proofs.SearchLaws.{any_same, any-blocks}
use Rattle.endian.specs.Believed.Numbers.{Bytes, u8_at}
use Rattle.rota_rows.proofs.ScanLaws.{blocks-rest}
use Rattle.rota_rows.specs.Rows.{rise_of, place_at, next_falls, Pattern}

module _ (x y after : ℕ) where
  pub rise-joined : bit_or (y - x) (pick (eqb x y) after 0) ≡ rise_of x y after
  unfolding rise_of
  rise-joined = go (eqb x y) refl
    where
      go : (b : Bool) → eqb x y ≡ b → bit_or (y - x) (pick b after 0) ≡ pick b after (y - x)
      go true e = let z : y - x ≡ 0 = omega (arith, eqb-true x y e) in rw z (or_zero_l after)
      go false e = or_zero_r (y - x)

  rise-equal : x ≡ y → rise_of x y after ≡ after
  unfolding rise_of
  rise-equal e = pick_true _ _ _ (eq-eqb x y e)

  rise-below : y < x → eqb (rise_of x y after) 0 ≡ true
  unfolding rise_of
  rise-below l = let z : y - x ≡ 0 = omega arith in eq-eqb _ 0 (pick-false _ _ _ (ne_eqb x y (λ e. omega (arith, e))) ∙ z)

  rise-above : x < y → eqb (rise_of x y after) 0 ≡ false
  unfolding rise_of
  rise-above l =
      ap (λ (m : ℕ). eqb m 0) (pick-false _ _ _ (ne_eqb x y (λ e. omega (arith, e)))) ∙ ne_eqb (y - x) 0 (λ e. omega (arith, e))

-- of two numbers one is below, or they are equal
three_ways {ℓ} : {A : Type ℓ} (x y : ℕ) → (y < x → A) → (x ≡ y → A) → (x < y → A) → A
three_ways x y below equal above =
    ⊎_elim below (λ (q : x ≤ y). ⊎_elim above (λ (p : y ≤ x). equal (omega arith)) (lt-or-le x y)) (lt-or-le y x)

-- the place of a row with these bytes
abbrev place : ℕ → ℕ → ℕ → ℕ
place role number hours = (role * 256 + number) * 256 + hours

-- a row's role, number and hours, and those of the next
module _ (r n h r2 n2 h2 : ℕ) (nb : n < 256) (hb : h < 256) (nb2 : n2 < 256) (hb2 : h2 < 256) where
  yes : place r2 n2 h2 ≤ place r n h → true ≡ leb (place r2 n2 h2) (place r n h)
  yes l = sym (le-leb _ _ l)

  no : place r n h < place r2 n2 h2 → false ≡ leb (place r2 n2 h2) (place r n h)
  no l = sym (lt-leb _ _ l)

  by-hours : r ≡ r2 → n ≡ n2 → eqb (h2 - h) 0 ≡ leb (place r2 n2 h2) (place r n h)
  by-hours e f =
      ⊎_elim
      (λ (l : h < h2). ne_eqb (h2 - h) 0 (λ q. omega (arith, q)) ∙ no (omega arith))
      (λ (l : h2 ≤ h). eq-eqb (h2 - h) 0 (omega arith) ∙ yes (omega arith))
      (lt-or-le h h2)

  by_number : r ≡ r2 → eqb (rise_of n n2 (h2 - h)) 0 ≡ leb (place r2 n2 h2) (place r n h)
  by_number e =
      three_ways n n2
      (λ l. rise-below n n2 _ l ∙ yes (omega arith))
      (λ f. ap (λ (m : ℕ). eqb m 0) (rise-equal n n2 _ f) ∙ by-hours e f)
      (λ l. rise-above n n2 _ l ∙ no (omega arith))

  by-role : eqb (rise_of r r2 (rise_of n n2 (h2 - h))) 0 ≡ leb (place r2 n2 h2) (place r n h)
  by-role =
      three_ways r r2
      (λ l. rise-below r r2 _ l ∙ yes (omega arith))
      (λ e. ap (λ (m : ℕ). eqb m 0) (rise-equal r r2 _ e) ∙ by_number e)
      (λ l. rise-above r r2 _ l ∙ no (omega arith))

pub byte-one : (b : Bool) → bool_byte b ≡ one b
byte-one true = refl
byte-one false = refl

module _ (s : List ℕ) (at : ℕ) where
  -- the rise by hours, by number and hours, and by all three
  module _ (bytes : Bytes s) (x y rise : ℕ) (ex : x ≡ u8_at s (at + 5) - u8_at s (at + 2)) (ey : y ≡ rise_of (u8_at s at) (u8_at s (at + 3)) x)
      (er : rise ≡ rise_of (u8_at s (at + 1)) (u8_at s (at + 4)) y) where
    pub falls-zero : eqb rise 0 ≡ next_falls s at
    unfolding next_falls place_at
    falls-zero =
        let e4 : at + 3 + 1 ≡ at + 4 = omega arith in
        let e5 : at + 3 + 2 ≡ at + 5 = omega arith in
        rw (er, ey, ex, e4, e5) (by-role _ _ _ _ _ _ (bytes at) (bytes (at + 2)) (bytes (at + 3)) (bytes (at + 5)))

  -- places that were read
  module _ (here next : ℕ) (eh : here ≡ place_at s at) (en : next ≡ place_at s (at + 3)) where
    pub falls-yes : next ≤ here → next_falls s at ≡ true
    unfolding next_falls
    falls-yes l = le-leb (place_at s (at + 3)) (place_at s at) (omega (arith, eh, en))

    pub falls-no : here < next → next_falls s at ≡ false
    unfolding next_falls
    falls-no l = lt-leb (place_at s (at + 3)) (place_at s at) (omega (arith, eh, en))

-- position j of a block counts, and the row after the row there is not above it
unfoldable pub counted : List ℕ → List ℕ → ℕ → ℕ → Bool
counted counts s at j = eqb (get_or counts j 0) 1 && next_falls s (at + j)

and-ones : (a b : Bool) → bit_and (one a) (one b) ≡ one (a && b)
and-ones true true = refl
and-ones true false = refl
and-ones false true = refl
and-ones false false = refl

not-one : (x : ℕ) → x ≡ 0 → eqb x 1 ≡ false
not-one x e = rw e refl

module _ (counts : List ℕ) (p : Pattern 1 0 0 16 counts) where
  -- each number of the pattern is 0 or 1
  zero_one : (j k : ℕ) → j < 48 → k ≡ j / 3 → get_or counts j 0 ≡ one (eqb (get_or counts j 0) 1)
  zero_one j k l d =
      ⊎_elim
      (λ (q : 3 * k < j).
      ⊎_elim
      (λ (u : 3 * k + 1 < j). none (3 * k + 2) (omega arith) (p.third k (omega arith)))
      (λ (u : j ≤ 3 * k + 1). none (3 * k + 1) (omega arith) (p.second k (omega arith)))
      (lt-or-le (3 * k + 1) j))
      (λ (q : j ≤ 3 * k).
      let e : j ≡ 3 * k = omega arith in
      let v : get_or counts j 0 ≡ 1 = ap (λ (m : ℕ). get_or counts m 0) e ∙ p.first k (omega arith) in
      v ∙ ap one (sym (eq-eqb _ 1 v)))
      (lt-or-le (3 * k) j)
    where
      none : (i : ℕ) → j ≡ i → get_or counts i 0 ≡ 0 → get_or counts j 0 ≡ one (eqb (get_or counts j 0) 1)
      none i e z =
          let v : get_or counts j 0 ≡ 0 = ap (λ (m : ℕ). get_or counts m 0) e ∙ z in
          v ∙ ap one (sym (not-one _ v))

  module _ (s : List ℕ) (at : ℕ) where
    pub counted-one : (j y : ℕ) → j < 48 → y ≡ one (next_falls s (at + j)) → bit_and (get_or counts j 0) y ≡ one (counted counts s at j)
    unfolding counted
    counted-one j y l e = ap₂ bit_and (zero_one j (j / 3) l refl) e ∙ and-ones (eqb (get_or counts j 0) 1) (next_falls s (at + j))

    counted-not : (j : ℕ) → get_or counts j 0 ≡ 0 → counted counts s at j ≡ false
    unfolding counted
    counted-not j e = ap (λ (b : Bool). b && next_falls s (at + j)) (not-one _ e)

    three : (i : ℕ) → i < 16 → any_below 3 (λ j. counted counts s at (3 * i + j)) ≡ next_falls s (at + 3 * i)
    unfolding any_below counted
    three i l =
        let z : 3 * i + 0 ≡ 3 * i = omega arith in
        ap₂ ◌||◌
        (ap₂ ◌||◌
        (ap (λ (m : ℕ). counted counts s at m) z
        ∙ ap (λ (b : Bool). b && next_falls s (at + 3 * i)) (eq-eqb _ 1 (p.first i l)))
        (counted-not (3 * i + 1) (p.second i l)))
        (counted-not (3 * i + 2) (p.third i l))
        ∙ or-false _ ∙ or-false _

    pub counted-rows : any_below 48 (counted counts s at) ≡ any_below 16 (λ k. next_falls s (at + 3 * k))
    counted-rows = any-blocks 3 16 (counted counts s at) ∙ any_same 16 _ _ three

-- the row after one in b blocks is not above it; after one of those left over
abbrev in_blocks : List ℕ → ℕ → ℕ → Bool
in_blocks s at b = any_below b (λ i. any_below 16 (λ k. next_falls s (at + 48 * i + 3 * k)))

abbrev left_over : List ℕ → ℕ → ℕ → ℕ → Bool
left_over s at n b = any_below (n - 1 - 16 * b) (λ k. next_falls s (at + 3 * (16 * b) + 3 * k))

-- all rows but the last, which none comes after
module _ (s : List ℕ) (at n b : ℕ) (l : 16 * b < n) where
  parts : any_below (n - 1) (λ k. next_falls s (at + 3 * k)) ≡ (in_blocks s at b || left_over s at n b)
  parts = blocks-rest (next_falls s) at (n - 1) b (omega arith)

  pub rest-falls : left_over s at n b ≡ true → any_below (n - 1) (λ k. next_falls s (at + 3 * k)) ≡ true
  rest-falls e = parts ∙ ap (λ (a : Bool). in_blocks s at b || a) e ∙ or-true (in_blocks s at b)

  pub rest-ascends : left_over s at n b ≡ false → any_below (n - 1) (λ k. next_falls s (at + 3 * k)) ≡ in_blocks s at b
  rest-ascends e = parts ∙ ap (λ (a : Bool). in_blocks s at b || a) e ∙ or-false (in_blocks s at b)
