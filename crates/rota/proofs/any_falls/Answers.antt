use mathlib.Core.Path.{◌∙◌}
use Rattle.rota.proofs.OrderLaws.{falls-next}
use Rattle.rota.proofs.any_falls.Goals as goal

pub returns : goal.returns
returns c = let a = c.args in c.any_next_falls.ensures ∙ falls-next a.s.now a.at a.n
