-- Always is in every set of hours that hold; else the lowest of both sets is in either.
use mathlib.Core.Path.{sym, ◌∙◌}
use native.Mathlib.Omega.{arith}
use Rattle.bitset.proofs.SetLaws.{insert-self}
use Rattle.rota_holding.proofs.PermittedLaws.{some-there, lowest-there}
use Rattle.rota_holding.proofs.choose.Goals as goal

pub returns-then-contains : goal.returns-then-contains
returns-then-contains c = (sym c.contains.ensures ∙ c.if-contains.true, insert-self _ 63 (omega arith), omega arith)

pub lowest-requires : goal.lowest-requires
lowest-requires c = some-there _ _ c.with.ensures c.both.ensures c.requires

pub returns : goal.returns
returns c = lowest-there _ _ c.with.ensures c.both.ensures c.lowest.ensures.0 c.lowest.ensures.1
