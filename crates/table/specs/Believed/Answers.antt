-- What reading a table answers.
use Rattle.std.specs.Prelude.{ℕ, List}
use Rattle.ground.specs.Believed.Outcome.{Outcome, outcome}
use Rattle.table.specs.Believed.TableBytes.{cycle_of, users_of, permissions_of, roles_of, derived_of, rows_of}
use Rattle.table.specs.Believed.TableRefusals.{table_judged}
use Rattle.table.specs.declared.Counts.{Counts}

-- the counts of the header
unfoldable pub counts_of : List ℕ → Counts
counts_of s =
    record {
      cycle = cycle_of s;
      users = users_of s;
      permissions = permissions_of s;
      roles = roles_of s;
      derived = derived_of s;
      rows = rows_of s;
    }

unfoldable pub read_outcome : List ℕ → Outcome Counts
read_outcome s = outcome (table_judged s) (counts_of s)
