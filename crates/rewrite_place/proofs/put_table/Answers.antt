-- The size is that of the counts, which are the table's or already too many: so nothing is written exactly where the table does not fit, and else the
-- header and all parts are.
use Rattle.std.proofs.Common.{arith, refl}
use Rattle.std.proofs.lemmas.Option.{IfSome_then}
use Rattle.rewrite_count.proofs.ScratchLaws.{room-same}
use Rattle.rewrite_place.proofs.TableLaws.{header-fits, has_room, can_write, has-written, has-not}
use Rattle.rewrite_place.proofs.put_table.Goals as goal

pub length_of-size-requires : goal.length_of-size-requires
length_of-size-requires c = let q = c.requires.counted in (q.few, q.few-rows)

pub start_table-requires : goal.start_table-requires
start_table-requires c = let ρ = c.args.fields.now.roles.now in (header-fits ρ.bytes.now ρ.layout ρ.located c.args.k.entries c.args.k.rows, omega arith)

pub write_all-requires : goal.write_all-requires
write_all-requires c =
    let a = c.args in
    let ρ = a.fields.now.roles.now in
    let t = c.start_table in
    let z = has_room ρ.bytes.now ρ.layout ρ.located ρ.first ρ.end a.out.now a.k c.requires.counted c.length_of-size.result c.length_of-size.ensures t.result _ t.ensures.0 t.ensures.1 c.if-start_table.true in
    record {
      room = c.requires.room;
      kept = IfSome_then a.scratch.now.kept c.requires.kept (λ found h. h z);
      total_value = can_write ρ.bytes.now ρ.layout ρ.located ρ.first ρ.end a.out.now a.k c.requires.counted c.length_of-size.result c.length_of-size.ensures t.result _ t.ensures.0 t.ensures.1 c.if-start_table.true;
    }

pub returns-then-start_table-clause-placed : goal.returns-then-start_table-clause-placed
returns-then-start_table-clause-placed c =
    let a = c.args in
    let ρ = a.fields.now.roles.now in
    let t = c.start_table in
    has-written ρ.bytes.now ρ.layout ρ.located ρ.first ρ.end a.out.now a.k c.requires.counted c.length_of-size.result c.length_of-size.ensures t.result _ t.ensures.0 t.ensures.1 c.if-start_table.true _ c.write_all.ensures.written

pub returns-else-start_table-clause-placed : goal.returns-else-start_table-clause-placed
returns-else-start_table-clause-placed c =
    let a = c.args in
    let ρ = a.fields.now.roles.now in
    let t = c.start_table in
    has-not ρ.bytes.now ρ.layout ρ.located ρ.first ρ.end a.out.now a.k c.requires.counted c.length_of-size.result c.length_of-size.ensures t.result _ t.ensures.0 t.ensures.1 c.if-start_table.false

pub returns-else-start_table-clause-same : goal.returns-else-start_table-clause-same
returns-else-start_table-clause-same c = (room-same c.args.scratch.now, refl)
