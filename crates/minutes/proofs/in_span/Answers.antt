use Rattle.std.proofs.Common.{◌+◌, ◌-◌, arith}
use Rattle.std.proofs.lemmas.Bool.{le-leb, lt-leb}
use Rattle.ground.proofs.BoolLaws.{ltb_iff}
use Rattle.minutes.proofs.in_span.Goals as goal

pub returns-then-offset-x : goal.returns-then-offset-x
returns-then-offset-x c =
    let a = c.args in
    simp (le-leb _ _ c.if-offset-x.true)
    (ltb_iff (a.x - a.offset) a.length a.x (a.offset + a.length) (λ h. omega arith) (λ h. omega arith))

pub returns-else-offset-x : goal.returns-else-offset-x
returns-else-offset-x c = simp (lt-leb _ _ c.if-offset-x.false)
