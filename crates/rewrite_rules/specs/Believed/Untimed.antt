-- Tables of untimed users and permissions, ours and any other (document 01, "Rewriting", its second paragraph).
use Rattle.std.specs.Prelude.{ℕ, ◌≤◌, ◌<◌, ◌≡◌, Bool, ◌&&◌, List, eqb, length}
use Rattle.ground.specs.Believed.Search.{any, count_of}
use Rattle.ground.specs.Believed.Sequence.{list_of}
use Rattle.bitset.specs.Believed.Sets.{has}
use Rattle.minutes.specs.Believed.Minutes.{E}
use Rattle.table.specs.Believed.Table.{Table, entry_at, enabled}

-- a derived role whose two sets never change, with any choice of the minutes at which it is enabled
pub record Untimed : Type 0 where
  pub source : ℕ
  pub user : ℕ → Bool
  pub permission : ℕ → Bool
  pub on : ℕ → Bool

-- it is a derived role of r, and enabled at t
abbrev pub on_for : ℕ → ℕ → Untimed → Bool
on_for r t o = eqb o.source r && o.on t

-- at t such a table grants for role r the pair of u and p
unfoldable pub grants : List Untimed → ℕ → ℕ → ℕ → ℕ → Bool
grants os r t u p = any (λ (o : Untimed). on_for r t o && o.user u && o.permission p) os

-- a table as such a list: its own derived roles, each on when one of its rows enables it
abbrev pub untimed_at : Table → ℕ → Untimed
untimed_at τ i =
    record { source = (entry_at τ i).source; user = has (entry_at τ i).users; permission = has (entry_at τ i).permissions; on = enabled τ i }

abbrev pub untimed_of : Table → List Untimed
untimed_of τ = list_of (length τ.entries) (untimed_at τ)

-- a list that grants for r the same pairs at each minute as the table does, and enables at most one derived role of r at a time
pub record Rival (τ : Table) (r : ℕ) (os : List Untimed) : Type 0 where
  pub same-pairs : (t u p : ℕ) → t < E → u < τ.users → p < τ.permissions → grants os r t u p ≡ grants (untimed_of τ) r t u p
  pub one-at-a-time : (t : ℕ) → t < E → count_of (on_for r t) os ≤ 1
