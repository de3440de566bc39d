-- A list that stands in another at a place, and what is read there.
-- Assumes nothing.
use Prim.Native.Nat.{ℕ, zero, suc, ◌+◌, ◌*◌, ◌≤◌, ◌<◌, ◌/◌, ◌%◌}
use mathlib.Core.Path.{◌≡◌, refl, sym, ◌∙◌, ap, subst}
use mathlib.Core.List.{List, [], ◌∷◌, ◌++◌, append_assoc, append-nil}
use native.Mathlib.Omega.{arith}
use native.Mathlib.Nat.{add-zero, not-suc-le-zero, le_of_suc-le-suc, mul-zero, mul-suc}
use lib.ListN.{length, get_or, length-append}
use lib.Seq.{get_or_at}
use Rattle.ground.specs.Believed.Sequence.{joined, All}
use Rattle.endian.specs.Believed.Numbers.{u16_at, u32_at, u64_at, bytes16, bytes32, bytes64}

pub record At (s : List ℕ) (a : ℕ) (l : List ℕ) : Type 0 where
  pub front : List ℕ
  pub back : List ℕ
  pub is : s ≡ front ++ (l ++ back)
  pub place : length front ≡ a

module _ {s : List ℕ} where
  pub at_left : {a : ℕ} (l m : List ℕ) → At s a (l ++ m) → At s a l
  at_left l m w = record { front = w.front; back = m ++ w.back; is = w.is ∙ ap (λ (x : List ℕ). w.front ++ x) (append_assoc l m w.back); place = w.place }

  pub at_right : {a : ℕ} (l m : List ℕ) → At s a (l ++ m) → At s (a + length l) m
  at_right l m w =
      record {
        front = w.front ++ l;
        back = w.back;
        is = w.is ∙ ap (λ (x : List ℕ). w.front ++ x) (append_assoc l m w.back) ∙ sym (append_assoc w.front l (m ++ w.back));
        place = length-append w.front l ∙ ap (λ (n : ℕ). n + length l) w.place;
      }

  pub at_long : {a : ℕ} (l : List ℕ) → At s a l → a + length l ≤ length s
  at_long l w = omega (arith, ap length w.is, length-append w.front (l ++ w.back), length-append l w.back, w.place)

  pub at_byte : {a : ℕ} (x : ℕ) (l : List ℕ) → At s a (x ∷ l) → get_or s a 0 ≡ x
  at_byte x l w = rw w.is (get_or_at w.front x (l ++ w.back) 0 _ w.place)

  pub at_next : {a : ℕ} (x : ℕ) (l : List ℕ) → At s a (x ∷ l) → At s (a + 1) l
  at_next x l w = at_right (x ∷ []) l w

  pub at_moved : {a b : ℕ} (l : List ℕ) → a ≡ b → At s a l → At s b l
  at_moved l e w = subst (λ (n : ℕ). At s n l) e w

  pub at16 : {a : ℕ} (x : ℕ) → At s a (bytes16 x) → u16_at s a ≡ x
  unfolding u16_at bytes16
  at16 x w = omega (arith, at_byte _ _ w, at_byte _ _ (at_next _ _ w))

  pub at32 : {a : ℕ} (x : ℕ) → At s a (bytes32 x) → u32_at s a ≡ x
  unfolding u32_at bytes32 bytes16
  at32 {a} x w =
      let lo : u16_at s a ≡ x % 65536 = at16 (x % 65536) (at_left (bytes16 (x % 65536)) (bytes16 (x / 65536)) w) in
      let hi : u16_at s (a + 2) ≡ x / 65536 = at16 (x / 65536) (at_right (bytes16 (x % 65536)) (bytes16 (x / 65536)) w) in
      omega arith

  pub at64 : {a : ℕ} (x : ℕ) → At s a (bytes64 x) → u64_at s a ≡ x
  unfolding u64_at bytes64 bytes32 bytes16
  at64 {a} x w =
      let lo : u32_at s a ≡ x % 4294967296 = at32 (x % 4294967296) (at_left (bytes32 (x % 4294967296)) (bytes32 (x / 4294967296)) w) in
      let hi : u32_at s (a + 4) ≡ x / 4294967296 = at32 (x / 4294967296) (at_right (bytes32 (x % 4294967296)) (bytes32 (x / 4294967296)) w) in
      omega arith

pub at-whole : (s : List ℕ) → At s 0 s
at-whole s = record { front = []; back = []; is = sym (append-nil s); place = refl }

-- judging one after another the items of a list that stands in s
module _ {ℓ} {A : Type ℓ} (s : List ℕ) (e : A → List ℕ) (P : A → Type 0) (Q : ℕ → Type 0) (p : ℕ → ℕ)
    (step : (k : ℕ) (x : A) → At s (p k) (e x) → P x → Q k × (p (suc k) ≡ p k + length (e x))) where
  pub each_item : (k : ℕ) (xs : List A) → At s (p k) (joined e xs) → All P xs → (i : ℕ) → i < length xs → Q (k + i)
  unfolding joined
  each_item k [] w all i l = absurd (not-suc-le-zero l)
  each_item k (x ∷ xs) w all zero l = rw add-zero (step k x (at_left (e x) (joined e xs) w) all.0).0
  each_item k (x ∷ xs) w all (suc i) l =
      let st = step k x (at_left (e x) (joined e xs) w) all.0 in
      let h : Q (suc k + i) = each_item (suc k) xs (at_moved (joined e xs) (sym st.1) (at_right (e x) (joined e xs) w)) all.1 i (le_of_suc-le-suc l) in
      subst Q (omega arith) h

-- items of one width: the length of all, and where each stands
module _ {ℓ} {A : Type ℓ} where
  module _ (e : A → List ℕ) (z : ℕ) (width : (x : A) → length (e x) ≡ z) where
    pub joined_length : (xs : List A) → length (joined e xs) ≡ z * length xs
    unfolding joined
    joined_length [] = sym (mul-zero z)
    joined_length (x ∷ xs) = omega (arith, length-append (e x) (joined e xs), width x, joined_length xs, mul-suc z (length xs))

    pub item-at : {s : List ℕ} (xs : List A) (a : ℕ) → At s a (joined e xs) → (d : A) (i : ℕ) → i < length xs → At s (a + z * i) (e (get_or xs i d))
    unfolding joined
    item-at [] a w d i l = absurd (not-suc-le-zero l)
    item-at (x ∷ xs) a w d zero l = at_moved (e x) (omega (arith, mul-zero z)) (at_left (e x) (joined e xs) w)
    item-at (x ∷ xs) a w d (suc i) l =
        at_moved (e (get_or xs i d)) (omega (arith, width x, mul-suc z i))
        (item-at xs (a + length (e x)) (at_right (e x) (joined e xs) w) d i (le_of_suc-le-suc l))
