-- What document 02, item 4, asks of joined rows, as one claim over a rota's bytes. `touching` of proofs/Touching.antt proves it wherever they are
-- accepted.
use Rattle.std.specs.Prelude.{ℕ, ◌≤◌, ◌≡◌, List, length}
use Rattle.rota.specs.Believed.RotaBytes.{rota_of}
use Rattle.table.specs.Believed.Table.{enabled}
use Rattle.table.specs.Believed.TableBytes.{table_bytes}
use Rattle.table.specs.Believed.TableRefusals.{table_judged}
use Rattle.rewrite_rules.specs.Believed.Joined.{NoneTouch}
use Rattle.rewrite_rules.specs.Believed.Rewriting.{unjoined, rewrite}

-- `rewrite` is the joined table, `unjoined` the one with a row for each kept field
pub record Touching (s : List ℕ) : Type 0 where
  -- joined and unjoined enable the same derived roles at every minute
  pub same-enabled : (d t : ℕ) → enabled (rewrite (rota_of s)) d t ≡ enabled (unjoined (rota_of s)) d t
  -- no two neighbouring rows are left that touch
  pub none_left : NoneTouch (rewrite (rota_of s)).rows
  -- the derived roles and their numbers stay, and so D
  pub same-derived : (rewrite (rota_of s)).entries ≡ (unjoined (rota_of s)).entries
  -- N is never more
  pub no-more-rows : length (rewrite (rota_of s)).rows ≤ length (unjoined (rota_of s)).rows
  -- the reader takes both
  pub takes-joined : table_judged (table_bytes (rewrite (rota_of s))) ≡ 0
  pub takes-unjoined : table_judged (table_bytes (unjoined (rota_of s))) ≡ 0
