-- What is left of the entries, written from here, is the whole.
use Rattle.std.proofs.Common.{◌+◌, ◌*◌, drop}
use Rattle.table.specs.Believed.TableBytes.{entry_bytes}
use Rattle.rewrite_index.specs.Entries.{entries_to}
use Rattle.rewrite_rows.proofs.WriteLaws.{Writing}
use Rattle.rewrite_rows.proofs.write_entries.Given as goal

abbrev pub invariant-loop-i : goal.invariant-loop-i
invariant-loop-i l = Writing entry_bytes 17 (entries_to l.source l.d l.pairs) l.at l.initial.out (drop l.i (entries_to l.source l.d l.pairs)) (l.at + 17 * l.i) l.out
