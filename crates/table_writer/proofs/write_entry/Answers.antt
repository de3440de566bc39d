use mathlib.Core.List.{◌++◌}
use Rattle.endian.proofs.WrittenLaws.{sets-twice}
use Rattle.endian.specs.Believed.Numbers.{bytes8, bytes16, bytes32, bytes64}
use Rattle.table.specs.Believed.TableBytes.{entry_bytes}
use Rattle.table_writer.proofs.write_entry.Goals as goal

pub returns : goal.returns
unfolding bytes16 bytes32 bytes64 entry_bytes
returns c = let a = c.args in
    sets-twice a.d.now a.at (bytes8 a.source ++ bytes64 a.users) (bytes64 a.permissions)
    (sets-twice a.d.now a.at (bytes8 a.source) (bytes64 a.users) c.write8.ensures c.write64.ensures) c.write64-2.ensures
