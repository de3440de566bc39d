use mathlib.Core.List.{◌++◌}
use Rattle.endian.proofs.WrittenLaws.{sets-twice}
use Rattle.endian.specs.Believed.Numbers.{bytes16, bytes32}
use Rattle.table_writer.specs.Limits.{limits_bytes}
use Rattle.table.specs.Believed.TableBytes.{header_bytes}
use Rattle.table_writer.proofs.write_header.Goals as goal

pub returns : goal.returns
unfolding bytes16 bytes32 limits_bytes header_bytes
returns c = let n = c.args.counts in
    let l = c.args.d.now in
    let limits = limits_bytes n.cycle n.users n.permissions n.roles in
    sets-twice l 0 (limits ++ bytes32 n.derived) (bytes32 n.rows)
    (sets-twice l 0 limits (bytes32 n.derived) c.write_limits.ensures c.write32.ensures) c.write32-2.ensures
