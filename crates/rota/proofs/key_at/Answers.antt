use mathlib.Core.Path.{◌∙◌}
use Rattle.rota.proofs.OrderLaws.{place-key}
use Rattle.rota.proofs.key_at.Goals as goal

pub returns : goal.returns
returns c =
    let a = c.args in
    let p = c.place_at.ensures in
    (p.0 ∙ place-key a.s.now a.at, p.1)
