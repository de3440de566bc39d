use native.Mathlib.Omega.{arith}
use Rattle.rota.proofs.LocatedLaws.{counted, hours-at}
use Rattle.rewrite_grid.proofs.LaidLaws.{divided}
use borrow.Author.Rules.{rules}
use Rattle.rewrite_grid.proofs.divide.Goals as goal

pub era_cuts-era_count-requires : goal.era_cuts-era_count-requires
era_cuts-era_count-requires c = let w = c.requires in (w.accepted, hours-at _ _ w, (counted _ _ w).hours, search rules)

pub overflow_sub-era_count : goal.overflow_sub-era_count
overflow_sub-era_count c = c.era_cuts-era_count.ensures.some (omega arith)

pub cell_cuts-cell_count-requires : goal.cell_cuts-cell_count-requires
cell_cuts-cell_count-requires c = let w = c.requires in (w.accepted, hours-at _ _ w, (counted _ _ w).hours, search rules)

pub overflow_sub-cell_count : goal.overflow_sub-cell_count
overflow_sub-cell_count c = c.cell_cuts-cell_count.ensures.some (omega arith)

pub returns : goal.returns
returns c =
    let w = c.requires in
    let A = c.era_cuts-era_count.ensures in
    let B = c.cell_cuts-cell_count.ensures in
    divided _ w.accepted (counted _ _ w).cycle A (omega (arith, A.long)) B (omega (arith, B.long))
