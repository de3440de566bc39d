-- The slots below k whose sets are not empty are gathered.
use Rattle.std.proofs.Common.{arith, refl, ◌∙◌}
use Rattle.bitset.proofs.SetLaws.{set_of-none, turn_in, turn-out}
use Rattle.rewrite_unions.specs.Union.{in_use}
use Rattle.rewrite_unions.proofs.UnionLaws.{in-use, not-in-use, used_all}
use Rattle.rewrite_unions.proofs.used_in.Goals as goal
use Rattle.rewrite_unions.proofs.used_in.Goals.{then-set-ne0, else-set-ne0}

pub loop-k-init : goal.loop-k-init
loop-k-init c = set_of-none _

pub loop-k-preserved : goal.loop-k-preserved
loop-k-preserved c = let l = c.loop-k in let f = in_use c.args.sets.now in
    elim c.if-set-ne0.branch [
      | then-set-ne0 w ↦ turn_in l.k f (omega arith) l.used _ _ l.invariant refl (in-use c.args.sets.now l.k w.if-set-ne0.true) (w.used-is ∙ w.with-used.ensures)
      | else-set-ne0 w ↦ turn-out l.k f (omega arith) l.used _ _ l.invariant refl (not-in-use c.args.sets.now l.k w.if-set-ne0.false) w.used-is
    ]

pub returns : goal.returns
returns c = used_all c.args.sets.now c.loop-k.used c.loop-k.k c.loop-k.invariant (omega arith)
