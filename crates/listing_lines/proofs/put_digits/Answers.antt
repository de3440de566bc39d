-- The last digits are stored and the number is divided; what is left to store are the digits of what is left.
use Rattle.std.proofs.Common.{◌∙◌, arith, List, ℕ, replicate}
use Rattle.std.proofs.Math.ListN.{length-set}
use Rattle.listing_lines.proofs.DigitLaws.{digit-turn, digits-front}
use Rattle.listing_lines.proofs.put_digits.Goals as goal

pub loop-i-preserved : goal.loop-i-preserved
loop-i-preserved c =
    let l = c.loop-i in
    record {
      long = simp length-set (omega arith);
      stored = digit-turn l.text c.args.base l.i l.rest (omega arith) c.digit.ensures ∙ l.invariant.stored;
    }

pub returns : goal.returns
returns c =
    let a = c.args in
    let l = c.loop-i in
    let zeros : List ℕ = replicate 16 0 in
    rw (← (digits-front l.text zeros a.base l.i l.rest a.k a.n (omega arith) (omega arith) l.invariant.stored)) c.put.ensures
