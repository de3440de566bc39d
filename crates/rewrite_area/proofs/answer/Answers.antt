use Rattle.std.proofs.Common.{arith, refl}
use borrow.Author.Tests.{lt-ltb, le-ltb}
use Rattle.rewrite_count.specs.Parts.{length_with}
use Rattle.rewrite_area.proofs.answer.Goals as goal

pub returns-then-room-length : goal.returns-then-room-length
returns-then-room-length c =
    let a = c.args in
    rw (lt-ltb a.room (length_with a.k.entries a.k.rows) (omega (arith, c.if-room-length.true, c.length_of-length.ensures))) refl

pub returns : goal.returns
returns c =
    let a = c.args in
    let e = c.length_of-length.ensures in
    rw (le-ltb a.room (length_with a.k.entries a.k.rows) (omega (arith, c.if-room-length.false, e)), e) refl
