-- What is left to write of entries and rows, written from here, is the whole: a role's entries and rows come off the front of each.
use Rattle.std.specs.Prelude.{◌≡◌, is_some}
use Rattle.rewrite_count.specs.Parts.{SameRoom}
use Rattle.rewrite_count.proofs.ScratchLaws.{found_in}
use Rattle.rewrite_fill.proofs.FillLaws.{Held}
use Rattle.rewrite_fill.proofs.write_all.Given as goal

abbrev pub invariant-loop-r : goal.invariant-loop-r
invariant-loop-r l =
    let ρ = l.fields.roles.now in
    let t = l.scratch in
    record {
      held : Held (is_some t.kept) ρ.bytes.now ρ.first ρ.end l.fields.mask_count l.total (found_in t) l.initial.out l.out t.pairs.now t.marks.now l.d l.p l.r;
      same : SameRoom l.initial.scratch t;
      same-kept : t.kept ≡ l.initial.scratch.kept;
    }
