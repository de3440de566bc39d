use Rattle.std.proofs.Common.{arith}
use Rattle.listing_table.proofs.TextLaws.{role-is}
use Rattle.listing_table.proofs.put_role.Goals as goal

pub returns : goal.returns
returns c =
    let a = c.args in
    (rw (← (role-is a.t.now a.d c.read8-source.ensures.0 c.read64.ensures c.read64-2.ensures)) c.role_line.ensures.0, omega arith)
