use native.Mathlib.Omega.{arith}
use mathlib.Core.Path.{refl}
use Rattle.rota_rows.specs.Rows.{place_at}
use Rattle.rota_rows.proofs.place_at.Goals as goal

pub returns : goal.returns
unfolding place_at
returns c =
    let r = c.read8-role.ensures in
    let n = c.read8-number.ensures in
    let h = c.read8-hours.ensures in
    (rw (r.0, n.0, h.0) refl, omega (arith, r.1, n.1, h.1))
