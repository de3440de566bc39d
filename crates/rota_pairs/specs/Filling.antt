-- What the steps promise each other of the sets of juniors.
use Rattle.std.specs.Prelude.{ℕ, List, get_or, set}
use Rattle.bitset.specs.Believed.Sets.{insert}

-- role q is put into the set of role r
abbrev pub with_junior : List ℕ → ℕ → ℕ → List ℕ
with_junior js r q = set js r (insert (get_or js r 0) q)
