-- Neighbouring stores are one store of the bytes one after the other.
use mathlib.Core.List.{◌++◌}
use Rattle.endian.proofs.WrittenLaws.{sets-twice}
use Rattle.endian.specs.Believed.Numbers.{bytes16, bytes32}
use Rattle.table.specs.Believed.TableBytes.{row_bytes}
use Rattle.table_writer.proofs.write_row.Goals as goal

pub returns : goal.returns
unfolding bytes16 bytes32 row_bytes
returns c = let a = c.args in
    let l = a.d.now in
    let two = bytes32 a.derived ++ bytes32 a.w.begin in
    let three = two ++ bytes32 a.w.end in
    let four = three ++ bytes16 a.w.offset in
    sets-twice l a.at four (bytes16 a.w.length)
    (sets-twice l a.at three (bytes16 a.w.offset)
    (sets-twice l a.at two (bytes32 a.w.end)
    (sets-twice l a.at (bytes32 a.derived) (bytes32 a.w.begin) c.write32.ensures c.write32-2.ensures)
    c.write32-3.ensures) c.write16.ensures) c.write16-2.ensures
