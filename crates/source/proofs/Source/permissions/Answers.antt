use Rattle.source.proofs.LentLaws.{permissions-of-rota, permissions-of-table}
use Rattle.source.proofs.Source.permissions.Goals as goal

pub returns-in-Rota : goal.returns-in-Rota
returns-in-Rota c = rw c.in-Rota.is (permissions-of-rota c.in-Rota.rota)

pub returns-in-Table : goal.returns-in-Table
returns-in-Table c = rw c.in-Table.is (permissions-of-table c.in-Table.table)
