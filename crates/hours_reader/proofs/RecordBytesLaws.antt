-- The bytes of references and hours records.
--     ref-read, read_pairs, read-hours, read-records     what is read from the bytes that spell a value is that value
--     ref-spelt, spell-records                           the value that bytes spell is spelled by those bytes
-- Assumes nothing.
use Rattle.ground.proofs.ListLaws.{all-unit}
use Rattle.endian.proofs.RestLaws.{Rest, rest-to, next16, next32, rest-items}
use Prim.Native.Nat.{ℕ, suc, ◌+◌, ◌*◌, ◌≤◌}
use mathlib.Core.Path.{◌≡◌, refl, sym, ◌∙◌, ap, ap₂}
use mathlib.Core.Bool.{Bool, true, false}
use mathlib.Core.List.{List, ◌++◌, append_assoc}
use native.Mathlib.Omega.{arith}
use borrow.Author.Tests.{eqb-true, ne_eqb, leb-false}
use lib.Dec.{eqb}
use lib.ListN.{length}
use Rattle.ground.specs.Believed.Choice.{pick}
use Rattle.ground.specs.Believed.Sequence.{list_of, joined}
use Rattle.ground.proofs.SequenceLaws.{list_of-length}
use Rattle.endian.specs.Believed.Numbers.{Bytes, bytes16, bytes32}
use Rattle.endian.proofs.PartLaws.{part, part_join, tiles, spell16, spell32}
use Rattle.hours.specs.Believed.Hours.{Pair, Hours, ref_of, ref_byte, dangling}
use Rattle.hours.specs.Believed.HoursBytes.{pair_bytes, hours_bytes, pair_at, pairs_at, hours_at, record_at, pairs_before, hours_from}
use Rattle.hours.specs.declared.HoursRef.{HoursRef}
use Rattle.hours.specs.declared.HoursRef.TheVariants.{Always, Numbered}
use Rattle.hours_reader.proofs.RecordLaws.{record_at-is, pairs_before-up}

-- references
pub ref-spelt : (b : ℕ) → ref_byte (ref_of b) ≡ b
unfolding ref_byte ref_of
ref-spelt b = go (eqb b 255) refl
  where
    go : (t : Bool) → eqb b 255 ≡ t → unfold ref_byte in (ref_byte (pick t Always (Numbered b)) ≡ b)
    go true e = sym (eqb-true b 255 e)
    go false e = refl

pub ref-read : (h : ℕ) (r : HoursRef) → h ≤ 255 → dangling h r ≡ false → ref_of (ref_byte r) ≡ r
unfolding ref_byte ref_of dangling
ref-read h Always l d = refl
ref-read h (Numbered k) l d = rw (ne_eqb k 255 (λ z. omega (arith, leb-false h k d)))

-- reading
module _ {s : List ℕ} where
  pub read_pairs : (at : ℕ) (ps : List Pair) (m : List ℕ) → Rest s at (joined pair_bytes ps ++ m)
      → (list_of (length ps) (pair_at s at) ≡ ps) × Rest s (at + 4 * length ps) m
  unfolding pair_bytes
  read_pairs at ps m r =
      rest-items pair_bytes (λ p. Unit {0}) (pair_at s at) (λ k. at + 4 * k)
      (λ k p m _ r.
      let r1 = next16 p.offset (bytes16 p.length ++ m) (rw append_assoc at r) in
      let r2 = next16 p.length m r1.1 in
      (rw (r1.0, r2.0), rest-to (at + 4 * suc k) (omega arith) r2.1))
      ps m (all-unit ps) (rest-to (at + 4 * 0) (omega arith) r)

  pub read-hours : (at : ℕ) (h : Hours) (m : List ℕ) → Rest s at (hours_bytes h ++ m) → (hours_at s at ≡ h) × Rest s (at + 10 + 4 * pairs_at s at) m
  unfolding hours_bytes
  read-hours at h m r =
      let r1 = next32 h.begin (bytes32 h.end ++ (bytes16 (length h.pairs) ++ (joined pair_bytes h.pairs ++ m))) (simp append_assoc at r) in
      let r2 = next32 h.end _ r1.1 in
      let r3 = next16 (length h.pairs) _ (rest-to (at + 8) (omega arith) r2.1) in
      let r4 = read_pairs (at + 10) h.pairs m (rest-to (at + 10) (omega arith) r3.1) in
      (rw (r1.0, r2.0, r3.0, r4.0), rw r3.0 r4.1)

  pub read-records : (from : ℕ) (hs : List Hours) (m : List ℕ) → Rest s from (joined hours_bytes hs ++ m)
      → (hours_from s from (length hs) ≡ hs) × Rest s (record_at s from (length hs)) m
  unfolding hours_from record_at
  read-records from hs m r =
      rest-items hours_bytes (λ h. Unit {0}) (λ k. hours_at s (record_at s from k)) (record_at s from) (λ k h m _ r. read-hours (record_at s from k) h m r)
      hs m (all-unit hs) r

-- spelling
module _ (s : List ℕ) (b : Bytes s) where
  spell-pairs : (at n : ℕ) → at + 4 * n ≤ length s → joined pair_bytes (list_of n (pair_at s at)) ≡ part at (4 * n) s
  unfolding pair_bytes
  spell-pairs at n l =
      tiles s (pair_at s at) pair_bytes at (λ k. 4 * k) (λ _. 4) n refl (λ k m. omega arith)
      (λ k m. ap₂ ◌++◌ (spell16 s b (at + 4 * k) (omega arith)) (spell16 s b (at + 4 * k + 2) (omega arith)) ∙ part_join s (at + 4 * k) 2 2)

  spell-hours : (at : ℕ) → at + 10 + 4 * pairs_at s at ≤ length s → hours_bytes (hours_at s at) ≡ part at (10 + 4 * pairs_at s at) s
  unfolding hours_bytes
  spell-hours at l =
      ap₂ ◌++◌
      (ap₂ ◌++◌ (ap₂ ◌++◌ (spell32 s b at (omega arith)) (spell32 s b (at + 4) (omega arith)) ∙ part_join s at 4 4)
      (ap bytes16 (list_of-length _ _) ∙ spell16 s b (at + 8) (omega arith))
      ∙ part_join s at 8 2)
      (spell-pairs (at + 10) (pairs_at s at) l)
      ∙ part_join s at 10 (4 * pairs_at s at)

  pub spell-records : (from n : ℕ) → record_at s from n ≤ length s → joined hours_bytes (hours_from s from n) ≡ part from (10 * n + 4 * pairs_before s from n) s
  unfolding hours_from pairs_before
  spell-records from n l =
      tiles s (λ k. hours_at s (record_at s from k)) hours_bytes from (λ k. 10 * k + 4 * pairs_before s from k) (λ k. 10 + 4 * pairs_at s (record_at s from k)) n
      refl (λ k m. omega arith)
      (λ k m.
      let up : pairs_before s from (suc k) ≤ pairs_before s from n = pairs_before-up s from (suc k) n m in
      rw (← record_at-is s from k) (spell-hours (record_at s from k) (omega (arith, up, record_at-is s from k, record_at-is s from n))))
