-- Demand 3, whole, as one claim over bytes: what it says. `demand3` of proofs/Agreement.antt proves it wherever rewriting succeeds.
-- The services are those of the contracts of crate service, and the area afterwards is that of the contract of rewriting, so together they speak
-- of the code that runs.
use Rattle.std.specs.Prelude.{ℕ, ◌≤◌, ◌<◌, ◌≡◌, List, eqb, length}
use Rattle.ground.specs.Believed.Search.{count_of}
use Rattle.minutes.specs.Believed.Minutes.{E}
use Rattle.rota.specs.Believed.Rota.{Rota, policy_of}
use Rattle.rota.specs.Believed.RotaBytes.{rota_of}
use Rattle.rota.specs.Believed.RotaRefusals.{rota_judged}
use Rattle.table.specs.Believed.Table.{Entry}
use Rattle.table.specs.Believed.TableBytes.{table_of}
use Rattle.table.specs.Believed.TableRefusals.{table_judged}
use Rattle.rewrite_rules.specs.Believed.Rewriting.{rewrite}
use Rattle.rewrite_rules.specs.Believed.Untimed.{Untimed, Rival}
use Rattle.rewrite_rules.specs.Believed.Meaning.{MeansAt}
use Rattle.source.specs.declared.Kind.TheVariants as Kind
use Rattle.machine.specs.Believed.Machine.{Call, Run, fresh, machine_step, run}
use Rattle.service.specs.Believed.LentStep.{lent_step}

-- the plain machine on a rota, fresh, through a list of calls
abbrev pub machine : Rota → List Call → Run
machine ρ cs = run (machine_step (policy_of ρ)) fresh cs

-- of a rota's bytes s and a table's bytes: the rota is accepted and the table is the one that the rules give; for every list of calls, refused
-- ones included, a fresh service on either gives at each call what the plain machine gives on the rota, and ends in its state; at each minute and
-- for each role the table has at most one derived role enabled, one exactly when the role is enabled and has a user and a permission then, and
-- its sets are those; and any other table of untimed users and permissions that grants the same pairs for the role, with at most one derived role
-- of it enabled at a time, has at least as many
pub record Demand3 (s bytes : List ℕ) : Type 0 where
  pub rota-accepted : rota_judged s ≡ 0
  pub table-accepted : table_judged bytes ≡ 0
  pub table_is : table_of bytes ≡ rewrite (rota_of s)
  pub on-rota : (cs : List Call) → run (lent_step Kind.Rota s) fresh cs ≡ machine (rota_of s) cs
  pub on-table : (cs : List Call) → run (lent_step Kind.Table bytes) fresh cs ≡ machine (rota_of s) cs
  pub meaning : (r t : ℕ) → r < length (rota_of s).roles → t < E → MeansAt (rota_of s) (table_of bytes) r t
  pub fewest : (r : ℕ) → r < length (rota_of s).roles → (os : List Untimed) → Rival (table_of bytes) r os
      → count_of (λ (e : Entry). eqb e.source r) (table_of bytes).entries ≤ count_of (λ (o : Untimed). eqb o.source r) os
