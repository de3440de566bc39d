-- Lists cut into parts, and parts that are encodings.
-- Assumes nothing.
use Prim.Native.Nat.{ℕ, zero, suc, ◌+◌, ◌*◌, ◌≤◌, ◌<◌, ◌/◌, ◌%◌}
use mathlib.Core.Path.{◌≡◌, refl, sym, ◌∙◌, ap, ap₂}
use mathlib.Core.List.{List, [], ◌∷◌, ◌++◌}
use native.Mathlib.Omega.{arith}
use native.Mathlib.Nat.{le_refl}
use lib.ListN.{length, get_or, take, drop}
use lib.Seq.{drop-cons, take-add, drop-drop}
use Rattle.ground.specs.Believed.Sequence.{list_of, joined}
use Rattle.ground.proofs.SequenceLaws.{joined-list_of}
use Rattle.endian.specs.Believed.Numbers.{Bytes, u16_at, u32_at, u64_at, bytes16, bytes32, bytes64}

-- n elements from a on
unfoldable pub part : ℕ → ℕ → List ℕ → List ℕ
part a n s = take n (drop a s)

spelt : (x y : ℕ) → x < 256 → y < 256 → ◌≡◌ {A = List ℕ} ((x + 256 * y) % 256 ∷ (x + 256 * y) / 256 ∷ []) (x ∷ y ∷ [])
spelt x y p q =
    let e : (x + 256 * y) % 256 ≡ x = omega arith in
    let d : (x + 256 * y) / 256 ≡ y = omega arith in
    rw (e, d)

split32 : (x y : ℕ) → x < 4294967296 → y < 4294967296 → ((x + 4294967296 * y) % 4294967296 ≡ x) × ((x + 4294967296 * y) / 4294967296 ≡ y)
split32 x y p q = (omega arith, omega arith)

split : (x y : ℕ) → x < 65536 → y < 65536 → ((x + 65536 * y) % 65536 ≡ x) × ((x + 65536 * y) / 65536 ≡ y)
split x y p q = (omega arith, omega arith)

module _ (s : List ℕ) where
  pub part_none : (a : ℕ) → part a 0 s ≡ []
  unfolding part
  part_none a = refl

  pub part_join : (a n m : ℕ) → part a n s ++ part (a + n) m s ≡ part a (n + m) s
  unfolding part
  part_join a n m = sym (take-add n m (drop a s) ∙ ap (λ (l : List ℕ). take n (drop a s) ++ take m l) (drop-drop n a s))

  pub part-one : (a : ℕ) → a < length s → part a 1 s ≡ get_or s a 0 ∷ []
  unfolding part
  part-one a l = rw (drop-cons s a 0 l) refl

  pub tiles {ℓ} : {A : Type ℓ} (f : ℕ → A) (e : A → List ℕ) (a : ℕ) (w z : ℕ → ℕ) (n : ℕ) → w 0 ≡ 0
      → ((k : ℕ) → k < n → w (suc k) ≡ w k + z k) → ((k : ℕ) → k < n → e (f k) ≡ part (a + w k) (z k) s)
      → joined e (list_of n f) ≡ part a (w n) s
  unfolding joined list_of
  tiles f e a w z zero o up is = rw o (sym (part_none a))
  tiles f e a w z (suc n) o up is =
      let t = tiles f e a w z n o (λ k l. up k (omega arith)) (λ k l. is k (omega arith)) in
      joined-list_of e f n ∙ ap₂ (λ (x y : List ℕ). x ++ y) t (is n (le_refl (suc n))) ∙ part_join a (w n) (z n) ∙ ap (λ (k : ℕ). part a k s) (sym (up n (le_refl (suc n))))

  module _ (b : Bytes s) where
    pub spell16 : (at : ℕ) → at + 2 ≤ length s → bytes16 (u16_at s at) ≡ part at 2 s
    unfolding bytes16 u16_at
    spell16 at l =
        let j = part_join at 1 1 in
        spelt (get_or s at 0) (get_or s (at + 1) 0) (b at) (b (at + 1))
        ∙ sym (sym j ∙ ap₂ (λ (x y : List ℕ). x ++ y) (part-one at (omega arith)) (part-one (at + 1) (omega arith)))

    below16 : (at : ℕ) → u16_at s at < 65536
    unfolding u16_at
    below16 at = omega (arith, b at, b (at + 1))

    pub spell32 : (at : ℕ) → at + 4 ≤ length s → bytes32 (u32_at s at) ≡ part at 4 s
    unfolding bytes32 u32_at
    spell32 at l =
        let c = split (u16_at s at) (u16_at s (at + 2)) (below16 at) (below16 (at + 2)) in
        rw (c.0, c.1) (ap₂ (λ (x y : List ℕ). x ++ y) (spell16 at (omega arith)) (spell16 (at + 2) (omega arith)) ∙ part_join at 2 2)

    pub below32 : (at : ℕ) → u32_at s at < 4294967296
    unfolding u32_at
    below32 at = omega (arith, below16 at, below16 (at + 2))

    pub spell64 : (at : ℕ) → at + 8 ≤ length s → bytes64 (u64_at s at) ≡ part at 8 s
    unfolding bytes64 u64_at
    spell64 at l =
        let c = split32 (u32_at s at) (u32_at s (at + 4)) (below32 at) (below32 (at + 4)) in
        rw (c.0, c.1) (ap₂ (λ (x y : List ℕ). x ++ y) (spell32 at (omega arith)) (spell32 (at + 4) (omega arith)) ∙ part_join at 4 4)
