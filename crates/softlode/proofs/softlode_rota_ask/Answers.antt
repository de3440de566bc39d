use contract.Running.{tables, tables_of}
use denote.Triple.Spec.{triple_of}
use denote.Triple.Table.{entered}
use mathlib.Core.List.{[]}
use mir.Syntax.{w32}
use Rattle.host_answers.proofs.ToldFromResultOptionU8Refusal.TheImpl.Met as making
use Rattle.host_answers.specs.contracts.Told as N
use Rattle.host_answers.specs.contracts.ToldFromResultOptionU8Refusal.TheImpl as from
use Rattle.machine.specs.Believed.Machine.{ask}
use Rattle.service.proofs.ask.Met as stepping
use Rattle.service.proofs.ask.Symbol as step
use Rattle.service.specs.Believed.LentStep.{lent_step}
use Rattle.softlode.proofs.AskedHere.{R, meets_machine}
use Rattle.softlode.proofs.LeftHere.{passed}
use Rattle.softlode.proofs.LeftLaws.{asked}
use Rattle.softlode.proofs.softlode_rota_ask.Code as compiled
use Rattle.softlode.proofs.softlode_rota_ask.Goals as goal
use Rattle.softlode.proofs.softlode_rota_ask.Lts
use Rattle.softlode.proofs.softlode_rota_ask.Statement.{statement}
use Rattle.softlode.specs.contracts.softlode_rota_ask as f
use Rattle.softlode.specs.contracts.softlode_rota_ask.Key
use Rattle.source.specs.declared.Kind.TheVariants.{Rota}
use Rattle.std.proofs.prelude.AnyInto.into.Met as telling
use Rattle.std.proofs.prelude.AnyInto.into.Symbol as into

pub returns : goal.returns
returns c = asked _ _ c.into.ensures c.ask.ensures

-- AskedTwo.antt's theorem at this function's own code: its contract, from those of the two functions that it calls
pub by_form : {M : Type 1} → statement M
unfolding tables_of
by_form {M} 𝓤 𝓛 𝓜 𝓡 wired =
    entered 𝓤 𝓛.H (triple_of 𝓛 f.signature (f.spec 𝓛 𝓜.mem 𝓡.returns)) (tables 𝓤 𝓛.H 𝓜 𝓡 𝓡.env).C (tables 𝓤 𝓛.H 𝓜 𝓡 𝓡.env).Λ Key.name compiled.function (compiled.unfolded 𝓤 𝓛.H 𝓜 𝓡 wired)
    (meets_machine 𝓛 𝓜.mem 𝓡.returns w32 w32 Rota from.ghosts from.dict (λ y t p. p) (λ k s h u p. lent_step k s h (ask u p)) step.name (into.name Lts.passed-1) (tables_of 𝓤 𝓛.H 𝓜 (tables 𝓤 𝓛.H 𝓜 𝓡 𝓡.env))
    (stepping.met 𝓤 𝓛 𝓜 𝓡 (compiled.calls-service::ask 𝓡.env wired))
    (telling.met 𝓤 𝓛 𝓜 𝓡 (compiled.calls-core::convert::AnyInto::into 𝓡.env wired) (passed R) (passed N.the_row) (Lts.laws-1-0 ([], ([], tt))) (Lts.laws-1-1 ([], ([], tt))) from.ghosts from.dict (making.passed 𝓡.env (compiled.calls-host_answers::ToldFromResultOptionU8Refusal::from 𝓡.env wired) M 𝓤 𝓛 𝓜 𝓡)))
