use Rattle.std.proofs.Common.{◌+◌}
use native.Mathlib.Omega.{arith}
use Rattle.rewrite_masks.proofs.KeyLaws.{found-entered, after-old, after-new}
use Rattle.rewrite_masks.proofs.Masks.kind_of.Goals as goal
use Rattle.rewrite_masks.proofs.Masks.kind_of.Goals.{then-k-self, else-k-self}

pub returns-clause-found : goal.returns-clause-found
returns-clause-found c =
    let s = c.args.self.now in
    let p = c.requires in
    let x = c.enter_key-k in
    let found = found-entered c.args.m s.count s.sets.now p.held.0 (omega (arith, p.room)) c.if-m-eq0.false p.held.1 x.result _ x.ensures.0 in
    elim c.if-k-self.branch [
      | then-k-self w ↦ rw w.self-is (found (s.count + 1) (after-new s.count x.result x.ensures.0.most (omega (arith, w.if-k-self.true))))
      | else-k-self w ↦ rw w.self-is (found s.count (after-old s.count x.result (omega (arith, x.ensures.0.most, w.if-k-self.false))))
    ]
