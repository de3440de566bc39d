use Rattle.std.proofs.Common.{arith}
use Rattle.source.proofs.LentLaws.{users-of-table, permissions-of-table}
use Rattle.source.proofs.Source.answer_at.Goals as goal

pub answer_in-requires-in-Table : goal.answer_in-requires-in-Table
answer_in-requires-in-Table c =
    let t = c.in-Table.table in
    let p = rw c.in-Table.is at c.requires in
    (omega (arith, p.0, users-of-table t), omega (arith, p.1, permissions-of-table t))
