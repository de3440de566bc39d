use Rattle.source.proofs.LentLaws.{users-of-rota, users-of-table}
use Rattle.source.proofs.Source.users.Goals as goal

pub returns-in-Rota : goal.returns-in-Rota
returns-in-Rota c = rw c.in-Rota.is (users-of-rota c.in-Rota.rota)

pub returns-in-Table : goal.returns-in-Table
returns-in-Table c = rw c.in-Table.is (users-of-table c.in-Table.table)
