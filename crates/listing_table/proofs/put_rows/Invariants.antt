-- The text so far is that of the rows so far.
use Rattle.std.proofs.Common.{◌+◌, ◌*◌, ◌≤◌}
use Rattle.ground.specs.Believed.Sequence.{list_of, joined}
use Rattle.output.specs.Put.{Put}
use Rattle.table.specs.Believed.TableBytes.{row_of}
use Rattle.listing_table.specs.Believed.TableText.{row_text}
use Rattle.listing_table.proofs.put_rows.Given as goal

abbrev pub invariant-loop-i : goal.invariant-loop-i
invariant-loop-i l = record {
  text : Put (joined row_text (list_of l.i (row_of l.t))) l.initial.out l.out;
  short : l.out.at ≤ l.initial.out.at + 61 * l.i;
}
