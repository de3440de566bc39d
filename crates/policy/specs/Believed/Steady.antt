-- Who holds a permission at each minute of a stretch: the sessions that last through an advance (document 02, item 3).
use Rattle.std.specs.Prelude.{ℕ, Bool, not, ◌&&◌, leb}
use Rattle.ground.specs.Believed.Search.{any_below}
use Rattle.bitset.specs.Believed.Sets.{has, set_of}
use Rattle.policy.specs.Believed.Policy.{Policy, holds_any}

-- user u holds no permission at some minute from a to before b
unfoldable pub lapses : Policy → ℕ → ℕ → ℕ → Bool
lapses π a b u = any_below b (λ v. leb a v && not (holds_any π v u))

-- those of a set who hold a permission at each minute from a to before b
unfoldable pub steady_over : Policy → ℕ → ℕ → ℕ → ℕ
steady_over π among a b = set_of π.users (λ u. has among u && not (lapses π a b u))
