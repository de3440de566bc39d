-- What the steps of putting a table into an area promise one another.
use Rattle.std.specs.Prelude.{ℕ, ◌<◌, List, ◌++◌, ltb, leb, length, drop}
use Rattle.std.proofs.lemmas.List.Edits.{sets}
use Rattle.ground.specs.Believed.Choice.{pick}
use Rattle.table.specs.Believed.Table.{Table}
use Rattle.table.specs.Believed.TableBytes.{header_bytes, table_bytes}
use Rattle.table.specs.declared.Counts.{Counts}
use Rattle.rewrite_rules.specs.Believed.Rewriting.{size_of}

-- the area with a header at its start, where it has room for the table, else as it came
unfoldable pub started : List ℕ → Counts → ℕ → List ℕ
started area n size =
    pick (leb size (length area)) (sets area 0 (header_bytes n.cycle n.users n.permissions n.roles n.derived n.rows)) area

-- the header's fields fit their bytes
pub record HeaderFits (n : Counts) : Type 0 where
  pub cycle : n.cycle < 65536
  pub users : n.users < 256
  pub permissions : n.permissions < 256
  pub roles : n.roles < 65536

-- the area afterwards: the table's bytes at its start, or as it came where they do not fit
unfoldable pub placed_area : Table → List ℕ → List ℕ
placed_area τ area = pick (ltb (length area) (size_of τ)) area (table_bytes τ ++ drop (size_of τ) area)
