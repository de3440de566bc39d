-- Three bytes for each row, of at most 512.
use native.Mathlib.Omega.{arith}
use Rattle.tidy_rules.proofs.WrittenLaws.{rows-fewer}
use Rattle.tidy_kinds.proofs.count_kind.Goals as goal

pub put_kind-requires : goal.put_kind-requires
put_kind-requires c =
    let a = c.args in
    let p = c.requires in
    (p.0, omega (arith, rows-fewer a.s.now a.at a.n, p.1))

pub returns : goal.returns
returns c = omega (arith, c.put_kind.ensures.1)
