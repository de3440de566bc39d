use Rattle.std.proofs.Common.{arith}
use Rattle.table.proofs.HeaderLaws.{counts-are}
use Rattle.table.proofs.OpenedLaws.{row-fits}
use Rattle.table.proofs.accepted.Table.row_place.Goals as goal

pub returns-clause-place : goal.returns-clause-place
returns-clause-place c = omega (arith, (counts-are _ _ c.args.self.now.opened.counts).derived)

pub returns-clause-inside : goal.returns-clause-inside
returns-clause-inside c =
    omega (arith, row-fits _ _ c.args.self.now.opened _ c.requires, (counts-are _ _ c.args.self.now.opened.counts).derived)
