-- By the arm of the reference.
use native.Mathlib.Omega.{arith}
use Rattle.rota_holding.proofs.NumberLaws.{always-as, numbered-as}
use Rattle.rota_holding.proofs.number_at.Goals as goal
use Rattle.rota_holding.proofs.number_at.Goals.{in-Always, in-Numbered}

pub returns : goal.returns
returns c = let d = c.decode.ensures in (elim c.match-decode.branch [ in-Always w ↦ always-as d w.in-Always.is w.number-is | in-Numbered w ↦ numbered-as d _ w.in-Numbered.is w.number-is ], omega arith)
