-- Rows that ascend, by their number.
--     ascends-all, all-ascend     rows ascend exactly when each one's place is at least what it may have
--     least-none, least-next      what the first row may have, and the row after row k
--     under-yes, under-no         whether row k has less
--     place-key                   a row's place, from its bytes
--     falls-next                  some row is not above the one before, by what row scans say
-- Assumes nothing.
use Prim.Native.Nat.{ℕ, zero, suc, ◌+◌, ◌*◌, ◌-◌, ◌≤◌, ◌<◌}
use mathlib.Core.Path.{◌≡◌, refl, sym, ap, ap₂, ◌∙◌}
use mathlib.Core.List.{List}
use mathlib.Core.Bool.{Bool, true, false}
use native.Mathlib.Nat.{not-suc-le-zero, le_of_suc-le-suc}
use native.Mathlib.Numerals.{add-one}
use native.Mathlib.Omega.{arith}
use borrow.Author.Tests.{lt-ltb, le-ltb, ltb-true, le-leb, leb-true}
use lib.Dec.{leb, ltb}
use Rattle.ground.specs.Believed.Search.{any_below}
use Rattle.ground.specs.Believed.Sequence.{list_of}
use Rattle.ground.proofs.BoolLaws.{or-skip, eq-ext}
use Rattle.ground.proofs.SearchLaws.{any_same, any-split, any-none-of}
use Rattle.ground.proofs.SequenceLaws.{list_of-cons}
use Rattle.endian.specs.Believed.Numbers.{u8_at}
use Rattle.rota_rows.specs.Rows.{place_at, next_falls}
use Rattle.hours_reader.proofs.RecordBytesLaws.{ref-spelt}
use Rattle.rota.specs.Believed.Rota.{Row}
use Rattle.rota.specs.Believed.RotaBytes.{row_at_byte, row_at}
use Rattle.rota.specs.Believed.Order.{key_of, least, Ascends}

-- what row k may have, where the first may have n
abbrev from : ℕ → (ℕ → Row) → ℕ → ℕ
from n rows zero = n
from n rows (suc k) = key_of (rows k) + 1

from-least : (rows : ℕ → Row) (k : ℕ) → from 0 rows k ≡ least rows k
unfolding least
from-least rows zero = refl
from-least rows (suc k) = refl

-- past the first row
from-rest : (n : ℕ) (rows : ℕ → Row) (k : ℕ) → from (key_of (rows 0) + 1) (λ i. rows (suc i)) k ≡ from n rows (suc k)
from-rest n rows zero = refl
from-rest n rows (suc k) = refl

ascends-from : (m n : ℕ) (rows : ℕ → Row) → Ascends n (list_of m rows) → (k : ℕ) → k < m → from n rows k ≤ key_of (rows k)
ascends-from zero n rows a k l = absurd (not-suc-le-zero l)
ascends-from (suc m) n rows a zero l = let b = rw (list_of-cons m rows) at a in b.0
ascends-from (suc m) n rows a (suc k) l =
    let b = rw (list_of-cons m rows) at a in
    rw (from-rest n rows k) at (ascends-from m (key_of (rows 0) + 1) (λ i. rows (suc i)) b.1 k (le_of_suc-le-suc l))

from-ascends : (m n : ℕ) (rows : ℕ → Row) → ((k : ℕ) → k < m → from n rows k ≤ key_of (rows k)) → Ascends n (list_of m rows)
from-ascends zero n rows h = unfold list_of in tt
from-ascends (suc m) n rows h =
    rw (list_of-cons m rows)
    (h 0 (omega arith), from-ascends m (key_of (rows 0) + 1) (λ i. rows (suc i)) (λ k l. rw (from-rest n rows k) (h (suc k) (omega arith))))

module _ (m : ℕ) (rows : ℕ → Row) where
  pub ascends-all : Ascends 0 (list_of m rows) → (k : ℕ) → k < m → least rows k ≤ key_of (rows k)
  ascends-all a k l = rw (from-least rows k) at (ascends-from m 0 rows a k l)

  pub all-ascend : ((k : ℕ) → k < m → least rows k ≤ key_of (rows k)) → Ascends 0 (list_of m rows)
  all-ascend h = from-ascends m 0 rows (λ k l. rw (from-least rows k) (h k l))

pub least-none : (rows : ℕ → Row) → 0 ≡ least rows 0
unfolding least
least-none rows = refl

pub least-next : (rows : ℕ → Row) (k key : ℕ) → key ≡ key_of (rows k) → key + 1 ≡ least rows (k + 1)
unfolding least
least-next rows k key e = rw (add-one k, e) refl

module _ (rows : ℕ → Row) (k key low : ℕ) (ek : key ≡ key_of (rows k)) (el : low ≡ least rows k) where
  pub under-yes : key < low → ltb (key_of (rows k)) (least rows k) ≡ true
  under-yes l = lt-ltb (key_of (rows k)) (least rows k) (omega (arith, ek, el))

  pub under-no : low ≤ key → ltb (key_of (rows k)) (least rows k) ≡ false
  under-no l = le-ltb (key_of (rows k)) (least rows k) (omega (arith, ek, el))

pub place-key : (s : List ℕ) (at : ℕ) → place_at s at ≡ key_of (row_at_byte s at)
unfolding place_at key_of
place-key s at = rw (ref-spelt (u8_at s (at + 2))) refl

module _ (s : List ℕ) (at : ℕ) where
  -- the row after row k
  next-is : (k : ℕ) → next_falls s (at + 3 * k) ≡ ltb (key_of (row_at s at (1 + k))) (least (row_at s at) (1 + k))
  unfolding next_falls least
  next-is k =
      let e : at + 3 * k + 3 ≡ at + 3 * (1 + k) = omega arith in
      let q : 1 + k ≡ suc k = omega arith in
      ap₂ leb (ap (place_at s) e ∙ place-key s (at + 3 * (1 + k))) (place-key s (at + 3 * k))
      ∙ ltb-same (key_of (row_at s at (1 + k))) (key_of (row_at s at k))
      ∙ ap (λ (i : ℕ). ltb (key_of (row_at s at (1 + k))) (least (row_at s at) i)) (sym q)
    where
      ltb-same : (a b : ℕ) → leb a b ≡ ltb a (b + 1)
      ltb-same a b =
          eq-ext (leb a b) (ltb a (b + 1))
          (λ h. lt-ltb a (b + 1) (omega (arith, leb-true a b h)))
          (λ h. le-leb a b (omega (arith, ltb-true a (b + 1) h)))

  pub falls-next : (n : ℕ) → any_below (n - 1) (λ k. next_falls s (at + 3 * k)) ≡ any_below n (λ k. ltb (key_of (row_at s at k)) (least (row_at s at) k))
  unfolding any_below
  falls-next zero = refl
  falls-next (suc n) =
      let f : ℕ → Bool = λ k. ltb (key_of (row_at s at k)) (least (row_at s at) k) in
      let e : suc n - 1 ≡ n = omega arith in
      let q : suc n ≡ 1 + n = omega arith in
      ap (λ (m : ℕ). any_below m (λ k. next_falls s (at + 3 * k))) e
      ∙ any_same n (λ k. next_falls s (at + 3 * k)) (λ j. f (1 + j)) (λ k l. next-is k)
      ∙ sym (ap (λ (m : ℕ). any_below m f) q ∙ any-split 1 n f ∙ or-skip (any_below 1 f) (any_below n (λ j. f (1 + j))) none_first)
    where
      first-none : (i : ℕ) → i < 1 → least (row_at s at) i ≤ key_of (row_at s at i)
      first-none zero l = omega (arith, least-none (row_at s at))
      first-none (suc i) l = absurd (omega arith)

      none_first : any_below 1 (λ k. ltb (key_of (row_at s at k)) (least (row_at s at) k)) ≡ false
      none_first = any-none-of 1 _ (λ i l. under-no (row_at s at) i (key_of (row_at s at i)) (least (row_at s at) i) refl refl (first-none i l))
