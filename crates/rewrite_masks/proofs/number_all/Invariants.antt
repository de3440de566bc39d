use Rattle.std.proofs.Common.{length}
use Rattle.rewrite_masks.proofs.EraLaws.{Passed}
use Rattle.rewrite_masks.proofs.number_all.Given as goal

abbrev pub invariant-loop-i : goal.invariant-loop-i
invariant-loop-i l = Passed l.s l.eras l.ne (length l.held) l.kinds l.lens l.ends l.initial.masks l.masks l.i l.first
