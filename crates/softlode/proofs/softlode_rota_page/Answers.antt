-- Each turn puts a record's answer in its place, and there are as many turns as records, or none where something is refused.
use Rattle.std.proofs.Common.{sym, arith}
use Rattle.host_page.proofs.EachLaws.{up_to-zero}
use Rattle.host_page.proofs.PageLaws.{page-turn, page-ended}
use Rattle.source.specs.declared.Kind.TheVariants.{Rota}
use mathlib.Core.Path.{◌≡◌, refl}
use contract.Running.{tables, tables_of}
use denote.Triple.Spec.{triple_of}
use denote.Triple.Table.{entered}
use Rattle.host_page.proofs.PageLoop.{function, meets}
use Rattle.host_page.proofs.begin_rota.Met as begin
use Rattle.host_page.proofs.answer_by_rota.Met as one
use Rattle.host_page.proofs.begin_rota.Symbol as begin'
use Rattle.host_page.proofs.answer_by_rota.Symbol as one'
use Rattle.softlode.specs.contracts.softlode_rota_page as f
use Rattle.softlode.proofs.softlode_rota_page.Statement.{statement}
use Rattle.softlode.proofs.softlode_rota_page.Code as compiled
use Rattle.softlode.proofs.softlode_rota_page.Goals as goal

pub loop-i-init : goal.loop-i-init
loop-i-init c = sym (up_to-zero _ _)

pub loop-i-preserved : goal.loop-i-preserved
loop-i-preserved c = page-turn _ _ _ _ _ _ _ c.loop-i.invariant c.answer_by_rota.ensures

pub returns : goal.returns
returns c = (c.begin_rota-b.ensures.judged, page-ended _ _ _ _ _ _ c.begin_rota-b.ensures c.loop-i.auto.i-end (omega arith) c.loop-i.invariant)

-- the code is what `meets` is over
is_function : compiled.function ≡ function begin'.name one'.name
is_function = refl

-- and so the page has its contract by hand as well
by_hand : {M : Type 1} → statement M
unfolding tables_of
by_hand 𝓤 𝓛 𝓜 𝓡 wired =
    let 𝓣 = tables 𝓤 𝓛.H 𝓜 𝓡 𝓡.env in
    entered 𝓤 𝓛.H (triple_of 𝓛 f.signature (f.spec 𝓛 𝓜.mem 𝓡.returns)) 𝓣.C 𝓣.Λ f.Key.name compiled.function (compiled.unfolded 𝓤 𝓛.H 𝓜 𝓡 wired)
    (meets Rota begin'.name one'.name 𝓛 (tables_of 𝓤 𝓛.H 𝓜 𝓣) (begin.met 𝓤 𝓛 𝓜 𝓡 (compiled.calls-host_page::begin_rota 𝓡.env wired)) (one.met 𝓤 𝓛 𝓜 𝓡 (compiled.calls-host_page::answer_by_rota 𝓡.env wired)))
