-- One row at a minute: a row that grants covers the minute, and its entry has both bits; and back.
--     at-parts, at-of             of the row at a position
--     grants-parts, grants-of     of row i
--     both_by, both-no            the bits of an entry, as they were read: the second decides, or the first is not set
-- Assumes nothing.
use Rattle.std.proofs.Common.{◌≡◌, ℕ, ◌+◌, ◌*◌, List, Bool, true, false, refl}
use Rattle.ground.proofs.BoolLaws.{and-three, and-all}
use Rattle.bitset.specs.Believed.Sets.{has}
use Rattle.endian.specs.Believed.Numbers.{u32_at, u64_at}
use Rattle.minutes.specs.Believed.Minutes.{covers}
use Rattle.table.specs.Believed.TableBytes.{cycle_of, row_at_byte, entry_of}
use Rattle.table_answers.specs.Grants.{covering, owned, both_at, grants_at, row_grants}

module _ (s : List ℕ) (u p t at : ℕ) where
  pub at-parts : grants_at s u p t at ≡ true
      → (covers (cycle_of s) (row_at_byte s at).window t ≡ true) × (has (entry_of s (u32_at s at)).users u ≡ true) × (has (entry_of s (u32_at s at)).permissions p ≡ true)
  unfolding grants_at
  at-parts h = and-three _ _ _ h

  pub at-of : covers (cycle_of s) (row_at_byte s at).window t ≡ true → has (entry_of s (u32_at s at)).users u ≡ true
      → has (entry_of s (u32_at s at)).permissions p ≡ true → grants_at s u p t at ≡ true
  unfolding grants_at
  at-of a b c = and-all _ _ _ a b c

module _ (s : List ℕ) (u p t i : ℕ) where
  pub grants-parts : row_grants s u p t i ≡ true → (covering s t i ≡ true) × (has (owned s i).users u ≡ true) × (has (owned s i).permissions p ≡ true)
  unfolding row_grants
  grants-parts h = and-three _ _ _ h

  pub grants-of : covering s t i ≡ true → has (owned s i).users u ≡ true → has (owned s i).permissions p ≡ true → row_grants s u p t i ≡ true
  unfolding row_grants
  grants-of a b c = and-all _ _ _ a b c

-- the entry of the row at a position begins at e and has the users x, and a is whether u is one of them
module _ (s : List ℕ) (at e x u p : ℕ) (a : Bool) (ee : e ≡ 16 + 17 * u32_at s at) (ex : x ≡ u64_at s (e + 1)) (ea : a ≡ has x u) where
  pub both-no : a ≡ false → false ≡ both_at s u p at
  unfolding entry_of
  both-no h = rw (← ee, ← ex, ← ea, h) refl

  pub both_by : a ≡ true → (y : ℕ) (b : Bool) → y ≡ u64_at s (e + 9) → b ≡ has y p → b ≡ both_at s u p at
  unfolding entry_of
  both_by h y b ey eb = rw (← ee, ← ex, ← ea, h, ← ey) eb
