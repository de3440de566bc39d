-- A table and what it means (document 01, "The table's bytes").
use Rattle.std.specs.Prelude.{ℕ, Bool, ◌&&◌, List, eqb, length, get_or, Option}
use Rattle.ground.specs.Believed.Search.{any, any_below, lowest_below}
use Rattle.bitset.specs.Believed.Sets.{has}
use Rattle.minutes.specs.Believed.Minutes.{Window, covers}
use Rattle.policy.specs.Believed.Policy.{Policy}

-- a derived role: its source role and its two sets
pub record Entry : Type 0 where
  pub source : ℕ
  pub users : ℕ
  pub permissions : ℕ

-- a row enables its derived role at the minutes that its window covers
pub record Row : Type 0 where
  pub derived : ℕ
  pub window : Window

pub record Table : Type 0 where
  pub cycle : ℕ
  pub users : ℕ
  pub permissions : ℕ
  pub roles : ℕ
  pub entries : List Entry
  pub rows : List Row

-- no user and no permission: what a number past the last entry would name
abbrev pub no_entry : Entry
no_entry = record { source = 0; users = 0; permissions = 0 }

abbrev pub entry_at : Table → ℕ → Entry
entry_at τ d = get_or τ.entries d no_entry

-- derived role d is enabled at t: one of its rows enables it
unfoldable pub enabled : Table → ℕ → ℕ → Bool
enabled τ d t = any (λ (w : Row). eqb w.derived d && covers τ.cycle w.window t) τ.rows

-- a derived role of role r is enabled at t and has both bits set
unfoldable pub through : Table → ℕ → ℕ → ℕ → ℕ → Bool
through τ u p t r =
    any_below (length τ.entries)
    (λ d. eqb (entry_at τ d).source r && enabled τ d t && has (entry_at τ d).users u && has (entry_at τ d).permissions p)

-- yes with the lowest such role, or no
unfoldable pub answer : Table → ℕ → ℕ → ℕ → Option ℕ
answer τ u p t = lowest_below τ.roles (through τ u p t)

abbrev pub policy_of : Table → Policy
policy_of τ = record { users = τ.users; permissions = τ.permissions; answer = answer τ }
