-- What stands in a part of the buffer is stored there.
use Rattle.std.proofs.Common.{length, refl, sym, ◌∙◌, arith}
use Rattle.std.proofs.Math.Seq.{take-length}
use Rattle.std.proofs.lemmas.List.Edits.{sets-eq}
use Rattle.std.proofs.lemmas.Slice.{put_mid-paste}
use Rattle.output.proofs.Output.put.Goals as goal

pub returns : goal.returns
returns c =
    let s = c.args.self.now in
    let w = c.args.bytes.now in
    record {
      same = refl;
      stored =
          put_mid-paste s.at _ s.bytes.now _ w (length w) c.copy_from_slice.ensures.after (omega arith) refl
          ∙ rw (take-length w) (sym (sets-eq w s.bytes.now s.at c.requires));
      long = omega arith;
      moved = refl;
    }
