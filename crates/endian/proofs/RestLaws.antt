-- What is left of a list of bytes from a place on, read from the front; it knows numbers and lists alone.
--     rest-whole, rest-none                the whole list; nothing is left
--     rest-to, rest-next                   the same place said otherwise; what follows a part
--     next8, next16, next32                the number at the place, and what follows it
--     rest-items                           a list of items, one after the other, and what follows them
-- Assumes nothing.
use Prim.Native.Nat.{ℕ, suc, ◌+◌}
use mathlib.Core.Path.{◌≡◌, refl, ◌∙◌, ap₂, subst}
use mathlib.Core.List.{List, [], ◌∷◌, ◌++◌, append_assoc}
use native.Mathlib.Omega.{arith}
use lib.ListN.{length, length-append}
use Rattle.ground.specs.Believed.Sequence.{list_of, joined, All}
use Rattle.ground.proofs.SequenceLaws.{list_of-cons}
use Rattle.endian.specs.Believed.Numbers.{u8_at, u16_at, u32_at, bytes8, bytes16, bytes32}
use Rattle.endian.proofs.StandsLaws.{At, at_left, at_right, at_byte, at16, at32, at-whole}

-- l is what s holds from a on
pub record Rest (s : List ℕ) (a : ℕ) (l : List ℕ) : Type 0 where
  pub stands : At s a l
  pub whole : a + length l ≡ length s

pub rest-whole : (s : List ℕ) → Rest s 0 s
rest-whole s = record { stands = at-whole s; whole = omega arith }

module _ {s : List ℕ} where
  pub rest-none : {a : ℕ} → Rest s a [] → length s ≡ a
  rest-none r = omega (arith, r.whole)

  pub rest-to : {a : ℕ} {l : List ℕ} (b : ℕ) → a ≡ b → Rest s a l → Rest s b l
  rest-to {a} {l} b e r = subst (λ (n : ℕ). Rest s n l) e r

  pub rest-next : {a : ℕ} (l m : List ℕ) → Rest s a (l ++ m) → Rest s (a + length l) m
  rest-next l m r = record { stands = at_right l m r.stands; whole = omega (arith, r.whole, length-append l m) }

  pub next8 : {a : ℕ} (x : ℕ) (m : List ℕ) → Rest s a (bytes8 x ++ m) → (u8_at s a ≡ x) × Rest s (a + 1) m
  next8 x m r = (at_byte x m r.stands, rest-next (bytes8 x) m r)

  pub next16 : {a : ℕ} (x : ℕ) (m : List ℕ) → Rest s a (bytes16 x ++ m) → (u16_at s a ≡ x) × Rest s (a + 2) m
  unfolding bytes16
  next16 x m r = (at16 x (at_left (bytes16 x) m r.stands), rest-next (bytes16 x) m r)

  pub next32 : {a : ℕ} (x : ℕ) (m : List ℕ) → Rest s a (bytes32 x ++ m) → (u32_at s a ≡ x) × Rest s (a + 4) m
  unfolding bytes32 bytes16
  next32 x m r = (at32 x (at_left (bytes32 x) m r.stands), rest-next (bytes32 x) m r)

  -- item k is f k and begins at p k
  pub rest-items {ℓ} : {A : Type ℓ} (e : A → List ℕ) (P : A → Type 0) (f : ℕ → A) (p : ℕ → ℕ)
      → ((k : ℕ) (x : A) (m : List ℕ) → P x → Rest s (p k) (e x ++ m) → (f k ≡ x) × Rest s (p (suc k)) m)
      → (xs : List A) (m : List ℕ) → All P xs → Rest s (p 0) (joined e xs ++ m) → (list_of (length xs) f ≡ xs) × Rest s (p (length xs)) m
  unfolding joined list_of
  rest-items e P f p step [] m all r = (refl, r)
  rest-items e P f p step (x ∷ xs) m all r =
      let here = step 0 x (joined e xs ++ m) all.0 (rw append_assoc at r) in
      let there = rest-items e P (λ k. f (suc k)) (λ k. p (suc k)) (λ k. step (suc k)) xs m all.1 here.1 in
      (list_of-cons (length xs) f ∙ ap₂ ◌∷◌ here.0 there.0, there.1)
