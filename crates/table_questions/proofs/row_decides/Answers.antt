use native.Mathlib.Omega.{arith}
use Rattle.table.proofs.HeaderLaws.{laid}
use Rattle.table.proofs.OpenedLaws.{opened-header}
use Rattle.table_questions.proofs.AskedLaws.{decides-by, decides-none}
use Rattle.table_questions.proofs.row_decides.Goals as goal

pub row_has_both-requires : goal.row_has_both-requires
row_has_both-requires c =
    let f = laid _ _ (opened-header _ _ c.args.table.now.opened) in
    (rw c.in-Some.is at c.requires.2, omega arith, omega arith)

pub returns-in-Some : goal.returns-in-Some
returns-in-Some c = rw c.in-Some.is (decides-by _ _ c.args.table.now.opened _ _ _ _ c.row_has_both.ensures)

pub returns-in-None : goal.returns-in-None
returns-in-None c = rw c.in-None.is (decides-none _ _ c.args.table.now.opened _ _)
