-- The first q groups are in the table.
use Rattle.std.proofs.Common.{◌≡◌, length}
use Rattle.rewrite_unions.proofs.TableLaws.{Filled}
use Rattle.rewrite_unions.proofs.fill.Given as goal

abbrev pub invariant-loop-q : goal.invariant-loop-q
invariant-loop-q l = (length l.table ≡ 128) × Filled l.sets l.table l.q
