-- Neighbouring stores are one store of the bytes one after the other.
use mathlib.Core.List.{◌++◌}
use Rattle.endian.proofs.WrittenLaws.{sets-twice}
use Rattle.endian.specs.Believed.Numbers.{bytes8, bytes16}
use Rattle.table_writer.specs.Limits.{limits_bytes}
use Rattle.table_writer.proofs.write_limits.Goals as goal

pub returns : goal.returns
unfolding bytes16 limits_bytes
returns c = let a = c.args in
    let l = a.d.now in
    let two = bytes16 2 ++ bytes16 a.counts.cycle in
    let three = two ++ bytes8 a.counts.users in
    let four = three ++ bytes8 a.counts.permissions in
    sets-twice l 0 four (bytes16 a.counts.roles)
    (sets-twice l 0 three (bytes8 a.counts.permissions)
    (sets-twice l 0 two (bytes8 a.counts.users)
    (sets-twice l 0 (bytes16 2) (bytes16 a.counts.cycle) c.write16.ensures c.write16-2.ensures)
    c.write8.ensures) c.write8-2.ensures) c.write16-3.ensures
