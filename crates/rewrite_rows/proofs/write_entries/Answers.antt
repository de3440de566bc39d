-- What is left of the entries, written from here, is the whole.
use Rattle.std.proofs.Common.{arith, refl}
use Rattle.rewrite_index.proofs.EntryLaws.{left-turn, left-none}
use Rattle.rewrite_rows.proofs.WriteLaws.{entry-long, writing_start, writing-one, writing-end}
use Rattle.rewrite_rows.proofs.write_entries.Goals as goal

pub loop-i-init : goal.loop-i-init
loop-i-init c = let a = c.args in writing_start _ a.at a.out.now _ _ refl (omega arith)

pub loop-i-preserved : goal.loop-i-preserved
loop-i-preserved c = let a = c.args in let l = c.loop-i in
    writing-one l.invariant entry-long _ _ _ _ (left-turn a.source a.d a.pairs.now l.i c.loop-i-test.true) c.write_entry.ensures (omega arith)

pub returns : goal.returns
returns c = let a = c.args in let l = c.loop-i in (writing-end l.invariant (left-none a.source a.d a.pairs.now l.i (omega arith))).0
