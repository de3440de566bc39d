-- What is known of an accepted table by the counts that were read: its header, and where a row and the row's entry lie.
-- Assumes nothing.
use Rattle.std.proofs.Common.{ℕ, ◌+◌, ◌*◌, ◌≤◌, ◌<◌, List, length, arith}
use Rattle.ground.proofs.JudgementLaws.{or_else-zero}
use Rattle.table.specs.Believed.TableBytes.{derived_of, row_of}
use Rattle.table.specs.Believed.TableRefusals.{header_judged, table_judged}
use Rattle.table.specs.Inside.{Headed, Opened}
use Rattle.table.specs.declared.Counts.{Counts}
use Rattle.table.proofs.FineLaws.{table-fine}
use Rattle.table.proofs.HeaderLaws.{counts-are}

module _ (s : List ℕ) (n : Counts) (o : Opened s n) where
  -- an accepted table has an accepted header
  pub opened-header : Headed s n
  unfolding table_judged
  opened-header = record { clear = (or_else-zero (header_judged s) _ o.clear).0; counts = o.counts }

  pub row-fits : (i : ℕ) → i < n.rows → 16 + 17 * derived_of s + 16 * i + 16 ≤ length s
  row-fits i l = omega (arith, (table-fine s o.clear).header.whole, (counts-are s n o.counts).rows)

  pub entry-fits : (i : ℕ) → i < n.rows → 16 + 17 * (row_of s i).derived + 17 ≤ length s
  entry-fits i l =
      let f = table-fine s o.clear in
      omega (arith, f.header.whole, (f.rows i (omega (arith, (counts-are s n o.counts).rows))).alone.derived)
