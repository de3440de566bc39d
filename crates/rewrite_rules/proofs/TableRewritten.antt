-- The table that a rota is rewritten to is one that the reader of tables takes (document 01, "Rewriting", "Refusals by operation"); and so is the
-- one whose rows are not joined (document 02, item 4).
--     well-rewritten, well-unjoined    they keep every rule of the reader
--     rewritten-bytes, rewritten-accepted, unjoined-accepted    their bytes are bytes, and are accepted
--     rewritten-read, rewritten-length, size_few    they spell it, and are as many as the rewriting says, at most 35,212,336
-- Assumes nothing.
use Prim.Native.Nat.{◌≤◌}
use mathlib.Core.Path.{◌≡◌}
use mathlib.Core.List.{List}
use native.Mathlib.Nat.{le_refl}
use native.Mathlib.Omega.{arith}
use lib.ListN.{length}
use Rattle.ground.specs.Believed.Sequence.{All}
use Rattle.endian.specs.Believed.Numbers.{Bytes}
use Rattle.rota.specs.Believed.Rota.{Rota}
use Rattle.rota.specs.RotaWell.{RotaWell}
use Rattle.table.specs.Believed.Table.{Row}
use Rattle.table.specs.Believed.TableBytes.{table_bytes, table_of}
use Rattle.table.specs.Believed.TableRefusals.{table_judged}
use Rattle.table.specs.TableWell.{RowWell, InOrder, TableWell}
use Rattle.table_reader.proofs.ReadBackLaws.{bytes-length}
use Rattle.table_reader.proofs.TableTheorems.{read_back, well-accepted, well-bytes}
use Rattle.rewrite_rules.specs.Believed.Joined.{join_rows}
use Rattle.rewrite_rules.specs.Believed.Rewriting.{unjoined, rewrite, size_of}
use Rattle.rewrite_rules.proofs.JoinedOrder.{join-well, in_order, join-order}
use Rattle.rewrite_rules.proofs.Joining.{joined-fewer}
use Rattle.rewrite_rules.proofs.TableOrder.{with_rows, entries-few, entries-ascend, rows_few, entries-well, rows-well, rows-follow}

module _ (ρ : Rota) (w : RotaWell ρ) where
  well-with : (ws : List Row) → length ws ≤ length (unjoined ρ).rows → All (RowWell (with_rows ρ ws)) ws → InOrder (with_rows ρ ws) ws
      → TableWell (with_rows ρ ws)
  well-with ws few well order =
      record {
        cycle-some = w.cycle-some;
        cycle-most = w.cycle-most;
        users-most = w.users-most;
        permissions-most = w.permissions-most;
        roles-most = w.roles-most;
        entries-most = omega (arith, entries-few ρ, rows_few ρ w);
        rows-most = omega (arith, few, rows_few ρ w);
        entries = entries-well ρ ws;
        ascending = entries-ascend ρ;
        rows = well;
        in_order = order;
      }

  -- the rewritten table keeps every rule of the reader
  pub well-rewritten : TableWell (rewrite ρ)
  unfolding rewrite unjoined
  well-rewritten =
      let ws = (unjoined ρ).rows in
      let τ = with_rows ρ (join_rows ws) in
      well-with (join_rows ws) (joined-fewer ρ) (join-well τ ws (rows-well ρ w (join_rows ws))) (join-order τ ws (rows-follow ρ w (join_rows ws)))

  -- and with a row for each kept field it does so too
  pub well-unjoined : TableWell (unjoined ρ)
  unfolding unjoined
  well-unjoined =
      let ws = (unjoined ρ).rows in
      well-with ws (le_refl _) (rows-well ρ w ws) (in_order (with_rows ρ ws) ws (rows-follow ρ w ws))

  -- so its bytes are bytes, and are accepted
  pub rewritten-bytes : Bytes (table_bytes (rewrite ρ))
  rewritten-bytes = well-bytes (rewrite ρ) well-rewritten

  pub rewritten-accepted : table_judged (table_bytes (rewrite ρ)) ≡ 0
  rewritten-accepted = well-accepted (rewrite ρ) well-rewritten

  pub unjoined-accepted : table_judged (table_bytes (unjoined ρ)) ≡ 0
  unjoined-accepted = well-accepted (unjoined ρ) well-unjoined

  pub size_few : size_of (rewrite ρ) ≤ 35212336
  unfolding size_of rewrite unjoined
  size_few = omega (arith, entries-few ρ, joined-fewer ρ, rows_few ρ w)

-- the bytes of any rewritten table spell it, and are as many as the rewriting says
pub rewritten-read : (ρ : Rota) → table_of (table_bytes (rewrite ρ)) ≡ rewrite ρ
rewritten-read ρ = read_back (rewrite ρ)

pub rewritten-length : (ρ : Rota) → length (table_bytes (rewrite ρ)) ≡ size_of (rewrite ρ)
unfolding size_of
rewritten-length ρ = bytes-length (rewrite ρ)
