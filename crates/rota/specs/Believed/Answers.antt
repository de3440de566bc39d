-- What reading a rota answers.
use Rattle.std.specs.Prelude.{ℕ, List}
use Rattle.ground.specs.Believed.Outcome.{Outcome, outcome}
use Rattle.rota.specs.Believed.RotaBytes.{format_of, cycle_of, hours_of, users_of, permissions_of, roles_of, user_rows_of, permission_rows_of}
use Rattle.rota.specs.Believed.RotaRefusals.{rota_judged}
use Rattle.rota.specs.declared.Counts.{Counts}

-- the counts of the header
unfoldable pub counts_of : List ℕ → Counts
counts_of s =
    record {
      cycle = cycle_of s;
      hours = hours_of s;
      users = users_of s;
      permissions = permissions_of s;
      roles = roles_of s;
      user_rows = user_rows_of s;
      permission_rows = permission_rows_of s;
      format = format_of s;
    }

unfoldable pub read_outcome : List ℕ → Outcome Counts
read_outcome s = outcome (rota_judged s) (counts_of s)
