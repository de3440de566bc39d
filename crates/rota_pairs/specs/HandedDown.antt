-- What the steps promise each other of sets of roles: where the juniors stand, and what is handed down to them, role by role from the highest.
use Rattle.std.specs.Prelude.{ℕ, zero, suc, ◌<◌, ◌≡◌, ◌&&◌, List, eqb, get_or}
use Rattle.ground.specs.Believed.Choice.{pick}
use Rattle.ground.specs.Believed.Search.{any}
use Rattle.bitset.specs.Believed.Sets.{has, union, intersection}
use Rattle.rota_pairs.specs.Hierarchy.{Pairing}

-- the juniors of each of 32 roles as a set: bit q of the set of role r exactly where (r, q) is a pair
pub record JuniorsAre (pairs : List Pairing) (js : List ℕ) : Type 0 where
  pub at : (r q : ℕ) → r < 32 → has (get_or js r 0) q ≡ any (λ (x : Pairing). eqb x.senior r && eqb x.junior q) pairs

-- the roles reached once roles n - 1, .., 0 have handed on: each that is reached adds its juniors that are in `on`
unfoldable pub handed_down : List ℕ → ℕ → ℕ → ℕ → ℕ
handed_down js on zero x = x
handed_down js on (suc n) x = handed_down js on n (pick (has x n) (union x (intersection (get_or js n 0) on)) x)
