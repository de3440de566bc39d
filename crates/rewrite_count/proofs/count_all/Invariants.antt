-- Counts so far are those of the roles so far; where they exceed the room the whole table does too, since it only grows.
use Rattle.std.specs.Prelude.{is_some}
use Rattle.rewrite_count.specs.Parts.{SameRoom}
use Rattle.rewrite_count.proofs.CountLaws.{Counting}
use Rattle.rewrite_count.proofs.ScratchLaws.{found_in}
use Rattle.rewrite_count.proofs.count_all.Given as goal

abbrev pub invariant-loop-r : goal.invariant-loop-r
invariant-loop-r l =
    let ρ = l.fields.roles.now in
    record {
      counting : Counting (is_some l.scratch.kept) ρ.bytes.now ρ.first ρ.end l.fields.mask_count (found_in l.scratch) l.scratch.pairs.now l.scratch.marks.now l.d l.rows l.r;
      same : SameRoom l.initial.scratch l.scratch;
    }
