-- What bytes are judged to be, and what they say, lent as a rota or as a table.
use Rattle.std.specs.Prelude.{ℕ, List}
use Rattle.policy.specs.Believed.Policy.{Policy}
use Rattle.rota.specs.Believed.Rota as rota
use Rattle.rota.specs.Believed.RotaBytes.{rota_of}
use Rattle.rota.specs.Believed.RotaRefusals.{rota_judged}
use Rattle.table.specs.Believed.Table as table
use Rattle.table.specs.Believed.TableBytes.{table_of}
use Rattle.table.specs.Believed.TableRefusals.{table_judged}
use Rattle.source.specs.declared.Kind.{Kind}
use Rattle.source.specs.declared.Kind.TheVariants.{Rota, Table}

abbrev pub judged_as : Kind → List ℕ → ℕ
judged_as Rota s = rota_judged s
judged_as Table s = table_judged s

abbrev pub policy_as : Kind → List ℕ → Policy
policy_as Rota s = rota.policy_of (rota_of s)
policy_as Table s = table.policy_of (table_of s)
