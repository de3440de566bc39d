-- The rewriting of a rota to a table (document 01, "Rewriting"; refusal 20).
-- It serves the aim of TransformPR and TransformMDS of document 003: timed assignments to a role become untimed ones to derived roles of it, of
-- which at most one is enabled at a time. It differs in that intervals are half open and share no minute, and that no remainder is kept or
-- dropped step by step as in Fig. 6 there: the fields are laid out at once, and one is kept exactly when it has a minute at which the role is
-- enabled and has a user and a permission.
use Rattle.std.specs.Prelude.{ℕ, zero, suc, ◌+◌, ◌-◌, ◌*◌, Bool, not, ◌&&◌, List, [], ◌∷◌, ◌++◌, map, ltb, eqb, length, drop, Option, None, Some}
use Rattle.ground.specs.Believed.Choice.{pick}
use Rattle.ground.specs.Believed.Judgement.{refuse, ◌or_else◌}
use Rattle.ground.specs.Believed.Outcome.{Outcome, outcome}
use Rattle.ground.specs.Believed.Search.{lowest_below}
use Rattle.bitset.specs.Believed.Sets.{set_of}
use Rattle.minutes.specs.Believed.Minutes.{E, Window, covers}
use Rattle.hours.specs.Believed.Hours.{Pair, Hours}
use Rattle.rota.specs.Believed.Rota.{Rota, enabled, has_user, has_permission}
use Rattle.rota.specs.Believed.RotaBytes.{rota_of}
use Rattle.rota.specs.Believed.RotaRefusals.{rota_judged}
use Rattle.table.specs.Believed.Table.{Entry, Row, Table}
use Rattle.table.specs.Believed.TableBytes.{table_bytes}
use Rattle.rewrite_rules.specs.Believed.Cuts.{Gap, sort_into, gaps}
use Rattle.rewrite_rules.specs.Believed.Distinct.{add_all, place_of}
use Rattle.rewrite_rules.specs.Believed.Joined.{join_rows}

-- every begin and end of all hours
unfoldable pub hours_cuts : List Hours → List ℕ
hours_cuts [] = []
hours_cuts (h ∷ hs) = h.begin ∷ h.end ∷ hours_cuts hs

-- every offset and offset + length
unfoldable pub pair_cuts : List Pair → List ℕ
pair_cuts [] = []
pair_cuts (p ∷ ps) = p.offset ∷ (p.offset + p.length) ∷ pair_cuts ps

unfoldable pub pairs_cuts : List Hours → List ℕ
pairs_cuts [] = []
pairs_cuts (h ∷ hs) = pair_cuts h.pairs ++ pairs_cuts hs

-- the eras lie between neighbouring values of 0, E and every begin and end, the cells between those of 0, C and every offset and its end
unfoldable pub era_cuts : Rota → List ℕ
era_cuts ρ = sort_into [] (0 ∷ E ∷ hours_cuts ρ.hours)

unfoldable pub cell_cuts : Rota → List ℕ
cell_cuts ρ = sort_into [] (0 ∷ ρ.cycle ∷ pairs_cuts ρ.hours)

-- a field is an era with a cell
abbrev pub field_of : Gap → Gap → Window
field_of era cell = record { begin = era.low; end = era.high; offset = cell.low; length = cell.high - cell.low }

-- eras, then cells
unfoldable pub fields_of : List Gap → List Gap → List Window
fields_of [] cells = []
fields_of (e ∷ eras) cells = map (field_of e) cells ++ fields_of eras cells

unfoldable pub fields : Rota → List Window
fields ρ = fields_of (gaps (era_cuts ρ)) (gaps (cell_cuts ρ))

-- the users and the permissions that role r has at t, as sets, and the derived role that they make
unfoldable pub users_at : Rota → ℕ → ℕ → ℕ
users_at ρ r t = set_of ρ.users (λ u. has_user ρ u r t)

unfoldable pub permissions_at : Rota → ℕ → ℕ → ℕ
permissions_at ρ r t = set_of ρ.permissions (λ p. has_permission ρ p r t)

abbrev pub derived_at : Rota → ℕ → ℕ → Entry
derived_at ρ r t = record { source = r; users = users_at ρ r t; permissions = permissions_at ρ r t }

-- role r is enabled at t and has a user and a permission
unfoldable pub active : Rota → ℕ → ℕ → Bool
active ρ r t = enabled ρ r t && not (eqb (users_at ρ r t) 0) && not (eqb (permissions_at ρ r t) 0)

-- a field is kept for r when some minute of the era has its remainder in the cell and r is active there: with the derived role that r is there
abbrev pub derived_there : Rota → ℕ → Option ℕ → Option Entry
derived_there ρ r None = None
derived_there ρ r (Some t) = Some (derived_at ρ r t)

unfoldable pub kept_as : Rota → ℕ → Window → Option Entry
kept_as ρ r f = derived_there ρ r (lowest_below E (λ t. covers ρ.cycle f t && active ρ r t))

pub record Kept : Type 0 where
  pub entry : Entry
  pub field : Window

abbrev pub keep : Option Entry → Window → List Kept → List Kept
keep None f l = l
keep (Some e) f l = record { entry = e; field = f } ∷ l

-- of the fields in order, those that are kept for r
unfoldable pub kept_of : Rota → ℕ → List Window → List Kept
kept_of ρ r [] = []
kept_of ρ r (f ∷ fs) = keep (kept_as ρ r f) f (kept_of ρ r fs)

-- roles ascending: n roles from r on
unfoldable pub kept_from : Rota → ℕ → ℕ → List Kept
kept_from ρ zero r = []
kept_from ρ (suc n) r = kept_of ρ r (fields ρ) ++ kept_from ρ n (suc r)

unfoldable pub kept : Rota → List Kept
kept ρ = kept_from ρ (length ρ.roles) 0

-- a derived role is a source role with its two sets
abbrev pub same : Entry → Entry → Bool
same a b = eqb a.source b.source && eqb a.users b.users && eqb a.permissions b.permissions

-- derived roles are numbered by first row, and each kept field gives one row
unfoldable pub entries_of : List Kept → List Entry
entries_of ks = add_all same [] (map (λ (k : Kept). k.entry) ks)

abbrev pub row_of : List Entry → Kept → Row
row_of es k = record { derived = place_of same k.entry es; window = k.field }

unfoldable pub unjoined : Rota → Table
unjoined ρ =
    record {
      cycle = ρ.cycle;
      users = ρ.users;
      permissions = ρ.permissions;
      roles = length ρ.roles;
      entries = entries_of (kept ρ);
      rows = map (row_of (entries_of (kept ρ))) (kept ρ);
    }

-- and neighbouring rows that touch are written as one (document 02, item 4)
unfoldable pub rewrite : Rota → Table
rewrite ρ =
    let τ = unjoined ρ in
    record { cycle = τ.cycle; users = τ.users; permissions = τ.permissions; roles = τ.roles; entries = τ.entries; rows = join_rows τ.rows }

-- the length of a table's bytes
unfoldable pub size_of : Table → ℕ
size_of τ = 16 + 17 * length τ.entries + 16 * length τ.rows

-- rewriting bytes into an area: the rota's refusal, then 20 exactly when the table is longer than the area
unfoldable pub rewrite_judged : List ℕ → ℕ → ℕ
rewrite_judged s room = rota_judged s or_else refuse 20 (ltb room (size_of (rewrite (rota_of s))))

pub record Written : Type 0 where
  pub derived : ℕ
  pub rows : ℕ
  pub length : ℕ

unfoldable pub written_of : Table → Written
written_of τ = record { derived = length τ.entries; rows = length τ.rows; length = size_of τ }

unfoldable pub rewrite_outcome : List ℕ → ℕ → Outcome Written
rewrite_outcome s room = outcome (rewrite_judged s room) (written_of (rewrite (rota_of s)))

-- how large the table of a rota is, without an area: the rota's refusal alone
unfoldable pub size_outcome : List ℕ → Outcome Written
size_outcome s = outcome (rota_judged s) (written_of (rewrite (rota_of s)))

-- the area afterwards: as it came where anything is refused, else the table's bytes at its start and the bytes past their length kept
unfoldable pub area_after : List ℕ → List ℕ → List ℕ
area_after s area =
    pick (eqb (rewrite_judged s (length area)) 0) (table_bytes (rewrite (rota_of s)) ++ drop (size_of (rewrite (rota_of s))) area) area
