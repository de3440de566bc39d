-- The tables that the reader's rules admit, said of the table itself (document 01, "Refusals by operation", reading a table).
use Rattle.std.specs.Prelude.{ℕ, ◌+◌, ◌^◌, ◌≤◌, ◌<◌, ◌≡◌, ◌⊎◌, List, [], ◌∷◌, length}
use Rattle.ground.specs.Believed.Sequence.{All}
use Rattle.minutes.specs.Believed.Minutes.{E}
use Rattle.table.specs.Believed.Table.{Entry, Row, Table, entry_at}

-- the sets are not empty and have no bit at or above U and P
pub record EntryWell (τ : Table) (e : Entry) : Type 0 where
  pub source : e.source < τ.roles
  pub some-user : 0 < e.users
  pub some-permission : 0 < e.permissions
  pub users-below : e.users < 2 ^ τ.users
  pub permissions-below : e.permissions < 2 ^ τ.permissions

-- no source is below the one before
abbrev pub Ascending : ℕ → List Entry → Type 0
Ascending r [] = Unit {0}
Ascending r (e ∷ es) = (r ≤ e.source) × Ascending e.source es

pub record RowWell (τ : Table) (w : Row) : Type 0 where
  pub derived : w.derived < length τ.entries
  pub ordered : w.window.begin < w.window.end
  pub ends : w.window.end ≤ E
  pub some-length : 0 < w.window.length
  pub in-cycle : w.window.offset + w.window.length ≤ τ.cycle

-- row w follows row v: its source role is greater; or equal, in the same era and not before the end of v's phase; or equal, in a later era
abbrev pub Follows : Table → Row → Row → Type 0
Follows τ v w =
    let r = (entry_at τ v.derived).source in
    let q = (entry_at τ w.derived).source in
    (r < q)
    ⊎ ((r ≡ q) × (v.window.begin ≡ w.window.begin) × (v.window.end ≡ w.window.end) × (v.window.offset + v.window.length ≤ w.window.offset))
    ⊎ ((r ≡ q) × (v.window.end ≤ w.window.begin))

-- each row follows the one before
abbrev pub InOrder : Table → List Row → Type 0
InOrder τ [] = Unit {0}
InOrder τ (v ∷ []) = Unit {0}
InOrder τ (v ∷ w ∷ ws) = Follows τ v w × InOrder τ (w ∷ ws)

pub record TableWell (τ : Table) : Type 0 where
  pub cycle-some : 0 < τ.cycle
  pub cycle-most : τ.cycle ≤ 40320
  pub users-most : τ.users ≤ 64
  pub permissions-most : τ.permissions ≤ 64
  pub roles-most : τ.roles ≤ 32
  -- the counts fit the 4 bytes that the header has for each
  pub entries-most : length τ.entries < 4294967296
  pub rows-most : length τ.rows < 4294967296
  pub entries : All (EntryWell τ) τ.entries
  pub ascending : Ascending 0 τ.entries
  pub rows : All (RowWell τ) τ.rows
  pub in_order : InOrder τ τ.rows
