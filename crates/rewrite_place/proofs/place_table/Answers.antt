use Rattle.std.proofs.Common.{arith, refl}
use Rattle.std.proofs.lemmas.Option.{IfSome_then}
use Rattle.rewrite_role.proofs.LocatedLaws.{roles-are}
use Rattle.rewrite_count.proofs.ScratchLaws.{room-stays, same-on}
use Rattle.rewrite_place.proofs.RoomLaws.{room-kept-for, counted-within}
use Rattle.rewrite_place.proofs.place_table.Goals as goal

pub none_kept-scratch-requires : goal.none_kept-scratch-requires
none_kept-scratch-requires c =
    let ρ = c.args.fields.now.roles.now in
    (omega (arith, roles-are ρ.bytes.now ρ.layout ρ.located, ρ.range.1), c.requires.room.few)

pub count_all-k-requires : goal.count_all-k-requires
count_all-k-requires c =
    let ρ = c.args.fields.now.roles.now in
    record {
      room = room-kept-for c.requires.room c.none_kept-scratch.ensures;
      found = IfSome_then c.none_kept-scratch.result c.none_kept-scratch.ensures (λ found h. omega (arith, h.0, roles-are ρ.bytes.now ρ.layout ρ.located, ρ.range.1));
    }

pub put_table-requires : goal.put_table-requires
put_table-requires c =
    let k = c.count_all-k in
    record {
      counted = counted-within c.requires.area k.ensures.counted;
      room = room-stays k.ensures.same (room-kept-for c.requires.room c.none_kept-scratch.ensures);
      kept = IfSome_then k.new.scratch.kept k.ensures.kept (λ found h e. h (omega (arith, c.requires.area)));
    }

pub returns-clause-placed : goal.returns-clause-placed
returns-clause-placed c = (c.count_all-k.ensures.counted, c.put_table.ensures.placed)

pub returns-clause-same : goal.returns-clause-same
returns-clause-same c =
    let e = same-on c.count_all-k.ensures.same c.put_table.ensures.same.0 in
    record {
      same-pairs = e.same-pairs;
      same-marks = e.same-marks;
      same-links = e.same-links;
      pairs = e.pairs;
      marks = e.marks;
      links = e.links;
      trees = e.trees;
      kept = refl;
    }
