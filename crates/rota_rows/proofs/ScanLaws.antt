-- Rows in blocks of sixteen: byte j of a block is one of the three of row j / 3, so that some byte of the block lies in its range exactly when some row
-- has one that does.
--     blank, filled, laid     a loop that lays a pattern: its start, a turn, its end
--     joins, joined-some      a loop that joins 0 or 1 for each byte
--     numbered                a block's rows with a given number
--     blocks-rest, rows_split     all rows, as whole blocks and the rows left over; those out of range
-- Assumes nothing.
use Prim.Native.Nat.{ℕ, ◌+◌, ◌*◌, ◌-◌, ◌≤◌, ◌<◌}
use mathlib.Core.Path.{◌≡◌, refl, sym, ap, ap₂, ◌∙◌}
use mathlib.Core.Logic.{⊎_elim}
use mathlib.Core.Bool.{Bool, true, false, not, ◌&&◌, ◌||◌, and-true, or-false}
use mathlib.Core.List.{List}
use native.Mathlib.Omega.{arith}
use native.Mathlib.Nat.{le_antisymm}
use borrow.Author.Tests.{le-leb, leb-true, eq-eqb, eqb-true}
use lib.Bits.{bit_or}
use lib.Dec.{leb, eqb}
use lib.ListN.{length, get_or, set, length-set}
use lib.Seq.{get_or-set_same, get_or-set_other}
use Rattle.ground.specs.Believed.Search.{any_below, one}
use Rattle.ground.proofs.BoolLaws.{lt-or-le, eq-ext, and_yes, and_both, not_yes}
use Rattle.ground.proofs.SearchLaws.{any-turn, any_same, any-split, any-blocks}
use Rattle.endian.specs.Believed.Numbers.{Bytes, u8_at}
use Rattle.rota_rows.specs.Rows.{row_out, byte_out, Pattern}

-- 0 or 1 for each byte, joined: 1 where one is
both-ones : (a b : Bool) → bit_or (one a) (one b) ≡ one (a || b)
both-ones true true = refl
both-ones true false = refl
both-ones false true = refl
both-ones false false = refl

pub joins : (f : ℕ → Bool) (j x y : ℕ) → x ≡ one (any_below j f) → y ≡ one (f j) → bit_or x y ≡ one (any_below (j + 1) f)
joins f j x y e h = ap₂ bit_or e h ∙ both-ones (any_below j f) (f j) ∙ ap one (sym (any-turn f j))

pub joined-some : (b : Bool) (x : ℕ) → x ≡ one b → not (eqb x 0) ≡ b
joined-some true x e = rw e refl
joined-some false x e = rw e refl

-- all rows, as whole blocks of sixteen and the rows left over
module _ (row : ℕ → Bool) (at n b : ℕ) (l : 16 * b ≤ n) where
  pub blocks-rest : any_below n (λ k. row (at + 3 * k))
      ≡ (any_below b (λ i. any_below 16 (λ k. row (at + 48 * i + 3 * k))) || any_below (n - 16 * b) (λ k. row (at + 3 * (16 * b) + 3 * k)))
  blocks-rest =
      ap (λ (m : ℕ). any_below m (λ k. row (at + 3 * k))) (let e : n ≡ 16 * b + (n - 16 * b) = omega arith in e)
      ∙ any-split (16 * b) (n - 16 * b) (λ k. row (at + 3 * k))
      ∙ ap₂ ◌||◌
      (any-blocks 16 b (λ k. row (at + 3 * k))
      ∙ any_same b _ _ (λ i m. any_same 16 _ _ (λ j q. ap row (let e : at + 3 * (16 * i + j) ≡ at + 48 * i + 3 * j = omega arith in e))))
      (any_same (n - 16 * b) _ _ (λ j q. ap row (let e : at + 3 * (16 * b + j) ≡ at + 3 * (16 * b) + 3 * j = omega arith in e)))

-- the first i threes are laid, and every third byte is c
pub record Filled (a b c i : ℕ) (p : List ℕ) : Type 0 where
  pub long : length p ≡ 48
  pub first : (k : ℕ) → k < i → get_or p (3 * k) 0 ≡ a
  pub second : (k : ℕ) → k < i → get_or p (3 * k + 1) 0 ≡ b
  pub third : (k : ℕ) → k < 16 → get_or p (3 * k + 2) 0 ≡ c

module _ (a b c i : ℕ) (p : List ℕ) (w : Filled a b c i p) (l : i < 16) where
  pub filled : Filled a b c (i + 1) (set (set p (3 * i) a) (3 * i + 1) b)
  filled =
      record {
        long = simp (length-set, w.long) refl;
        first = λ k m. get_or-set_other (set p (3 * i) a) (3 * i + 1) (3 * k) b 0 (λ e. omega (arith, e)) ∙ here k m;
        second = λ k m. there k m;
        third = λ k m.
            get_or-set_other (set p (3 * i) a) (3 * i + 1) (3 * k + 2) b 0 (λ e. omega (arith, e))
            ∙ get_or-set_other p (3 * i) (3 * k + 2) a 0 (λ e. omega (arith, e)) ∙ w.third k m;
      }
    where
      here : (k : ℕ) → k < i + 1 → get_or (set p (3 * i) a) (3 * k) 0 ≡ a
      here k m =
          ⊎_elim
          (λ (q : k < i). get_or-set_other p (3 * i) (3 * k) a 0 (λ e. omega (arith, e)) ∙ w.first k q)
          (λ (q : i ≤ k).
          let e : 3 * k ≡ 3 * i = omega arith in
          ap (λ (n : ℕ). get_or (set p (3 * i) a) n 0) e ∙ get_or-set_same p (3 * i) a 0 (omega (arith, w.long)))
          (lt-or-le k i)

      there : (k : ℕ) → k < i + 1 → get_or (set (set p (3 * i) a) (3 * i + 1) b) (3 * k + 1) 0 ≡ b
      there k m =
          ⊎_elim
          (λ (q : k < i).
          get_or-set_other (set p (3 * i) a) (3 * i + 1) (3 * k + 1) b 0 (λ e. omega (arith, e))
          ∙ get_or-set_other p (3 * i) (3 * k + 1) a 0 (λ e. omega (arith, e)) ∙ w.second k q)
          (λ (q : i ≤ k).
          let e : 3 * k + 1 ≡ 3 * i + 1 = omega arith in
          ap (λ (n : ℕ). get_or (set (set p (3 * i) a) (3 * i + 1) b) n 0) e
          ∙ get_or-set_same (set p (3 * i) a) (3 * i + 1) b 0 (simp length-set (omega (arith, w.long))))
          (lt-or-le k i)

-- at the start, and at the end
pub blank : (a b c : ℕ) (p : List ℕ) → length p ≡ 48 → ((j : ℕ) → j < 48 → get_or p j 0 ≡ c) → Filled a b c 0 p
blank a b c p l h =
    record { long = l; first = λ k m. absurd (omega arith); second = λ k m. absurd (omega arith); third = λ k m. h (3 * k + 2) (omega arith) }

pub laid : (a b c i : ℕ) (p : List ℕ) → Filled a b c i p → 16 ≤ i → i ≤ 16 → Pattern a b c 16 p
laid a b c i p w l m = record { first = λ k q. w.first k (omega arith); second = λ k q. w.second k (omega arith); third = w.third }

-- x lies in the range from n to m
abbrev within : ℕ → ℕ → ℕ → Bool
within n m x = leb n x && leb x m

-- some byte of a block lies in its range exactly when one of a row's three does, of some row
module _ (a b c d e f : ℕ) (low high : List ℕ) (pl : Pattern a b c 16 low) (ph : Pattern d e f 16 high) (s : List ℕ) where
  -- byte j, whose range is known
  byte : (at j n m v : ℕ) → get_or low j 0 ≡ n → get_or high j 0 ≡ m → at + j ≡ v → byte_out low high s at j ≡ within n m (u8_at s v)
  unfolding byte_out
  byte at j n m v el eh ev = rw (el, eh, ev)

  three : (at i : ℕ) → i < 16
      → any_below 3 (λ j. byte_out low high s at (3 * i + j))
      ≡ (within a d (u8_at s (at + 3 * i)) || within b e (u8_at s (at + 3 * i + 1)) || within c f (u8_at s (at + 3 * i + 2)))
  unfolding any_below
  three at i l =
      let z : 3 * i + 0 ≡ 3 * i = omega arith in
      ap₂ ◌||◌
      (ap₂ ◌||◌
      (byte at (3 * i + 0) a d (at + 3 * i) (ap (λ (n : ℕ). get_or low n 0) z ∙ pl.first i l) (ap (λ (n : ℕ). get_or high n 0) z ∙ ph.first i l) (omega arith))
      (byte at (3 * i + 1) b e (at + 3 * i + 1) (pl.second i l) (ph.second i l) (omega arith)))
      (byte at (3 * i + 2) c f (at + 3 * i + 2) (pl.third i l) (ph.third i l) (omega arith))

  block-rows : (row : ℕ → Bool) (at : ℕ)
      → ((v : ℕ) → (within a d (u8_at s v) || within b e (u8_at s (v + 1)) || within c f (u8_at s (v + 2))) ≡ row v)
      → any_below 48 (byte_out low high s at) ≡ any_below 16 (λ i. row (at + 3 * i))
  block-rows row at h = any-blocks 3 16 (byte_out low high s at) ∙ any_same 16 _ _ (λ i l. three at i l ∙ h (at + 3 * i))

-- rows with the number x: the first range is x alone, the others are empty
module _ (x : ℕ) (low high : List ℕ) (pl : Pattern x 255 255 16 low) (ph : Pattern x 0 0 16 high) (s : List ℕ) where
  alone : (y : ℕ) → within x x y ≡ eqb y x
  alone y =
      eq-ext _ _
      (λ h. let z = and_yes _ _ h in eq-eqb y x (le_antisymm (leb-true y x z.1) (leb-true x y z.0)))
      (λ h. let q : y ≡ x = eqb-true y x h in and_both _ _ (le-leb x y (omega (arith, q))) (le-leb y x (omega (arith, q))))

  empty : (y : ℕ) → within 255 0 y ≡ false
  empty y = not_yes _ (λ h. let z = and_yes (leb 255 y) (leb y 0) h in omega (arith, leb-true 255 y z.0, leb-true y 0 z.1))

  pub numbered : (at : ℕ) → any_below 48 (byte_out low high s at) ≡ any_below 16 (λ k. eqb (u8_at s (at + 3 * k)) x)
  numbered at =
      block-rows x 255 255 x 0 0 low high pl ph s (λ v. eqb (u8_at s v) x) at
      (λ v.
      let n = eqb (u8_at s v) x in
      ap₂ ◌||◌ (ap₂ ◌||◌ (alone (u8_at s v)) (empty (u8_at s (v + 1))) ∙ or-false n) (empty (u8_at s (v + 2))) ∙ or-false n)

-- rows that are out of range
module _ (top roles hours : ℕ) (low high : List ℕ) (pl : Pattern top roles hours 16 low) (ph : Pattern 255 255 254 16 high) (s : List ℕ) (bytes : Bytes s) where
  -- a byte is at most 255
  low-only : (n x : ℕ) → x < 256 → within n 255 x ≡ leb n x
  low-only n x m = ap (λ (b : Bool). leb n x && b) (le-leb x 255 (omega arith)) ∙ and-true (leb n x)

  block : (at : ℕ) → any_below 48 (byte_out low high s at) ≡ any_below 16 (λ i. row_out top roles hours s (at + 3 * i))
  unfolding row_out
  block at =
      block-rows top roles hours 255 255 254 low high pl ph s (row_out top roles hours s) at
      (λ v.
      ap (λ (b : Bool). b || within hours 254 (u8_at s (v + 2)))
      (ap₂ ◌||◌ (low-only top (u8_at s v) (bytes v)) (low-only roles (u8_at s (v + 1)) (bytes (v + 1)))))

  pub rows_split : (at n b : ℕ) → 16 * b ≤ n
      → any_below n (λ k. row_out top roles hours s (at + 3 * k))
      ≡ (any_below b (λ i. any_below 48 (byte_out low high s (at + 48 * i))) || any_below (n - 16 * b) (λ k. row_out top roles hours s (at + 3 * (16 * b) + 3 * k)))
  rows_split at n b l =
      blocks-rest (row_out top roles hours s) at n b l
      ∙ ap (λ (a : Bool). a || any_below (n - 16 * b) (λ k. row_out top roles hours s (at + 3 * (16 * b) + 3 * k)))
      (any_same b _ _ (λ i m. sym (block (at + 48 * i))))
