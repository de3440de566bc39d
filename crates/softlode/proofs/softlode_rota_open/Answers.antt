use contract.BorrowLft.{⊑_static}
use contract.Running.{tables, tables_of}
use denote.Builtin.{unit}
use denote.Triple.Spec.{triple_of}
use denote.Triple.Table.{entered}
use mathlib.Core.List.{[]}
use mir.Syntax.{w32}
use Rattle.host_answers.proofs.ToldFromResultUnitRefusal.TheImpl.Met as making
use Rattle.host_answers.specs.contracts.Told as N
use Rattle.host_answers.specs.contracts.ToldFromResultUnitRefusal.TheImpl as from
use Rattle.machine.proofs.leave.Met as leaving
use Rattle.machine.proofs.leave.Symbol as leave
use Rattle.machine.specs.Believed.Machine.{«open», done}
use Rattle.service.proofs.open.Met as stepping
use Rattle.service.proofs.open.Symbol as step
use Rattle.service.specs.Believed.LentStep.{lent_step}
use Rattle.softlode.proofs.LeftHere.{Answered, passed, unit_laws, meets_machine}
use Rattle.softlode.proofs.LeftLaws.{left}
use Rattle.softlode.proofs.softlode_rota_open.Code as compiled
use Rattle.softlode.proofs.softlode_rota_open.Goals as goal
use Rattle.softlode.proofs.softlode_rota_open.Lts
use Rattle.softlode.proofs.softlode_rota_open.Statement.{statement}
use Rattle.softlode.specs.contracts.softlode_rota_open as f
use Rattle.softlode.specs.contracts.softlode_rota_open.Key
use Rattle.source.specs.declared.Kind.TheVariants.{Rota}
use Rattle.std.proofs.prelude.AnyInto.into.Met as telling
use Rattle.std.proofs.prelude.AnyInto.into.Symbol as into
use Rattle.std.proofs.prelude.UnitClone.TheImpl.Met as copying
use Rattle.std.specs.contracts.prelude.UnitClone.TheImpl as clone

pub returns : goal.returns
returns c = left (λ _. done) _ _ c.leave.ensures.answer c.leave.ensures.state c.into.ensures c.open.ensures

-- LeftOne.antt's theorem at this function's own code: its contract, from those of the three functions that it calls
pub by_form : {M : Type 1} → statement M
unfolding tables_of
by_form {M} 𝓤 𝓛 𝓜 𝓡 wired =
    entered 𝓤 𝓛.H (triple_of 𝓛 f.signature (f.spec 𝓛 𝓜.mem 𝓡.returns)) (tables 𝓤 𝓛.H 𝓜 𝓡 𝓡.env).C (tables 𝓤 𝓛.H 𝓜 𝓡 𝓡.env).Λ Key.name compiled.function (compiled.unfolded 𝓤 𝓛.H 𝓜 𝓡 wired)
    (meets_machine 𝓛 𝓜.mem 𝓡.returns w32 Rota unit unit_laws (λ _. done) ⊑_static ⊑_static clone.ghosts clone.dict from.ghosts from.dict (λ y t p. p) (λ k s h m. lent_step k s h («open» m)) step.name (leave.name Lts.passed-1) (into.name Lts.passed-2) (tables_of 𝓤 𝓛.H 𝓜 (tables 𝓤 𝓛.H 𝓜 𝓡 𝓡.env))
    (stepping.met 𝓤 𝓛 𝓜 𝓡 (compiled.calls-service::open 𝓡.env wired))
    (leaving.met 𝓤 𝓛 𝓜 𝓡 (compiled.calls-machine::leave 𝓡.env wired) (passed unit) (Lts.laws-1-0 ([], ([], tt))) (Lts.copy-1-0 ([], ([], tt))) clone.ghosts clone.dict (copying.passed 𝓡.env (compiled.calls-core::clone::UnitClone::clone 𝓡.env wired) M 𝓤 𝓛 𝓜 𝓡))
    (telling.met 𝓤 𝓛 𝓜 𝓡 (compiled.calls-core::convert::AnyInto::into 𝓡.env wired) (passed (Answered unit)) (passed N.the_row) (Lts.laws-2-0 ([], ([], tt))) (Lts.laws-2-1 ([], ([], tt))) from.ghosts from.dict (making.passed 𝓡.env (compiled.calls-host_answers::ToldFromResultUnitRefusal::from 𝓡.env wired) M 𝓤 𝓛 𝓜 𝓡)))
