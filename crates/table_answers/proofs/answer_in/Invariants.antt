-- No row so far grants; rows go by source role, so the first that does has the lowest.
use Rattle.std.proofs.Common.{◌≡◌, false}
use Rattle.ground.specs.Believed.Search.{any_below}
use Rattle.table_answers.specs.Grants.{row_grants}
use Rattle.table_answers.proofs.answer_in.Given as goal

abbrev pub invariant-loop-k : goal.invariant-loop-k
invariant-loop-k l = any_below l.k (row_grants l.table.bytes.now l.u l.p l.t) ≡ false
