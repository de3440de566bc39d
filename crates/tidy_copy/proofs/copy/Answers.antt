-- The bytes so far are copied.
use Prim.Native.Nat.{◌+◌, ◌<◌}
use mathlib.Core.Path.{refl}
use native.Mathlib.Nat.{le_antisymm}
use native.Mathlib.Omega.{arith}
use lib.ListN.{length, length-set}
use Rattle.tidy_copy.proofs.CopyLaws.{copy-turn}
use Rattle.tidy_copy.proofs.copy.Goals as goal

pub loop-i-init : goal.loop-i-init
loop-i-init c = (refl, refl)

pub loop-i-preserved : goal.loop-i-preserved
loop-i-preserved c =
    let a = c.args in
    let l = c.loop-i in
    let within : a.from + l.i < length a.s.now = omega (arith, c.loop-i-test.true, c.requires.1) in
    (simp length-set l.invariant.0, copy-turn a.s.now a.from l.i within a.out.now a.to l.invariant.1)

pub returns : goal.returns
returns c = rw (← (le_antisymm c.loop-i.auto.i-end c.loop-i-test.false)) c.loop-i.invariant.1
