-- The users of the rows so far that cover the minute are gathered.
use Rattle.std.proofs.Common.{◌≡◌}
use Rattle.table_answers.proofs.HoldersLaws.{gathered}
use Rattle.table_answers.proofs.holders_in.Given as goal

abbrev pub invariant-loop-i : goal.invariant-loop-i
invariant-loop-i l = l.set ≡ gathered l.table.bytes.now l.t l.i
