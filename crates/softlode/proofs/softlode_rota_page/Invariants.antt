use Rattle.std.proofs.Common.{◌≡◌}
use Rattle.source.specs.declared.Kind.TheVariants.{Rota}
use Rattle.host_page.specs.Believed.Page.{answered}
use Rattle.host_page.proofs.EachLaws.{up_to}
use Rattle.softlode.proofs.softlode_rota_page.Given as goal

-- the first i records have their answers
abbrev pub invariant-loop-i : goal.invariant-loop-i
invariant-loop-i l = l.questions ≡ up_to (answered Rota l.s) l.i l.fn.questions
