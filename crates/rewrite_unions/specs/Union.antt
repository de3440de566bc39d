-- Sets by slot, and the union of those whose slots are in a mask.
use Rattle.std.specs.Prelude.{ℕ, zero, suc, Bool, not, List, eqb, get_or}
use Rattle.ground.specs.Believed.Choice.{pick}
use Rattle.bitset.specs.Believed.Sets.{has, set_of, union}

-- the union of those of the first k sets whose numbers are in the mask
unfoldable pub union_of : List ℕ → ℕ → ℕ → ℕ
union_of sets m zero = 0
union_of sets m (suc k) = pick (has m k) (union (union_of sets m k) (get_or sets k 0)) (union_of sets m k)

-- a slot is in use where its set is not empty
abbrev pub in_use : List ℕ → ℕ → Bool
in_use sets k = not (eqb (get_or sets k 0) 0)

unfoldable pub used_in : List ℕ → ℕ
used_in sets = set_of 33 (in_use sets)

-- the union of all
abbrev pub all_of : List ℕ → ℕ
all_of sets = union_of sets (used_in sets) 33
