use Rattle.source.proofs.LentLaws.{held-by-rota, held-by-table}
use Rattle.source.proofs.Source.held_near.Goals as goal

pub returns-in-Rota : goal.returns-in-Rota
returns-in-Rota c = rw c.in-Rota.is (held-by-rota c.in-Rota.rota c.held_at.ensures)

pub returns-in-Table : goal.returns-in-Table
returns-in-Table c = rw c.in-Table.is (held-by-table c.in-Table.table c.held_near.ensures)
