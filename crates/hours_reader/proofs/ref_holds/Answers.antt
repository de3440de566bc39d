-- By the number of the reference.
use native.Mathlib.Omega.{arith}
use Rattle.hours_reader.proofs.RefLaws.{always-in, numbered-in}
use Rattle.hours_reader.proofs.ref_holds.Goals as goal
use Rattle.hours_reader.proofs.ref_holds.Goals.{in-Always, in-Numbered}

pub returns : goal.returns
returns c =
    let p = c.requires in
    elim c.match-r.branch [
      | in-Always w ↦ always-in _ _ _ _ _ _ p.1 c.with.ensures c.contains.ensures w.in-Always.is (omega (arith, w.number-is))
      | in-Numbered w ↦ numbered-in _ _ _ _ _ _ p.1 c.with.ensures c.contains.ensures _ w.in-Numbered.is p.0 w.number-is
    ]
