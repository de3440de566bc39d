-- A table of unions: for each group of four slots the union of every choice among them.
use Rattle.std.specs.Prelude.{ℕ, ◌+◌, ◌*◌, ◌^◌, ◌≤◌, ◌<◌, ◌≡◌, List, [], ◌∷◌, get_or, drop}
use Rattle.std.proofs.lemmas.List.Edits.{sets}
use Rattle.ground.specs.Believed.Sequence.{list_of}
use Rattle.bitset.specs.Believed.Sets.{union}
use Rattle.rewrite_unions.specs.Union.{union_of, used_in, all_of}

-- a table with these values in the places from `at` on
abbrev pub stored : List ℕ → ℕ → List ℕ → List ℕ
stored table at values = sets table at values

-- the set x alone, and with a, with b and with both, of which ab is the union
abbrev pub with_two : ℕ → ℕ → ℕ → ℕ → List ℕ
with_two a b ab x = x ∷ union a x ∷ union b x ∷ union ab x ∷ []

-- the unions of every choice among four sets: the members of the choice's number say which are taken
unfoldable pub choices : List ℕ → List ℕ
choices four = list_of 16 (λ v. union_of four v 4)

-- the first g groups of slots are in the table, 16 unions each, and every slot after them but the last has no members
pub record Tabled (slots table : List ℕ) (g : ℕ) : Type 0 where
  pub few : g ≤ 8
  pub each : (q v : ℕ) → q < g → v < 16 → get_or table (16 * q + v) 0 ≡ union_of (drop (4 * q) slots) v 4
  pub none : (k : ℕ) → 4 * g ≤ k → k < 32 → get_or slots k 0 ≡ 0

-- sets by slot, each of 64: which slots are in use, the table of unions, and all of them together
pub record Ready (slots : List ℕ) (used : ℕ) (table : List ℕ) (groups all : ℕ) : Type 0 where
  pub fit : (k : ℕ) → get_or slots k 0 < 2 ^ 64
  pub used-are : used ≡ used_in slots
  pub tabled : Tabled slots table groups
  pub all_are : all ≡ all_of slots
