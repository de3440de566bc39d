-- `least` is the first minute that the rows so far give.
use Rattle.std.proofs.Common.{◌∙◌, arith}
use Rattle.table.proofs.OpenedLaws.{opened-header}
use Rattle.table.proofs.HeaderLaws.{laid}
use Rattle.table_next.proofs.PassLaws.{pass-most, pass-more, pass_same, pass-other, pass-met}
use Rattle.table_next.proofs.pass_rows.Goals as goal
use Rattle.table_next.proofs.pass_rows.Goals.{then-x-least+then-source-below+else-x-m, else-x-least, else-x-least-via-then-x-least+else-source-below, else-x-least-via-else-x-least}

pub first_of_row-x-requires : goal.first_of_row-x-requires
first_of_row-x-requires c =
    let f = laid _ _ (opened-header _ _ c.args.table.now.opened) in
    (omega (arith, c.loop-k-test.true), omega arith, omega arith, c.requires.2, pass-most _ _ _ _ _ _ _ c.loop-k.invariant)

pub returns-then-x-m : goal.returns-then-x-m
returns-then-x-m c =
    let e = pass-more _ _ _ _ _ _ _ c.loop-k.invariant _ c.first_of_row-x.ensures c.if-x-least.true (omega (arith, c.if-source-below.true, c.source.ensures)) in
    pass-met _ _ _ _ _ _ _ e _ (omega (arith, c.loop-k-test.true)) c.if-x-m.true

pub loop-k-preserved : goal.loop-k-preserved
loop-k-preserved c =
    let i = c.loop-k.invariant in
    let x = c.first_of_row-x.ensures in
    elim c.if-x-least.branch [
      | then-x-least+then-source-below+else-x-m w ↦ w.least-is ∙ pass-more _ _ _ _ _ _ _ i _ x w.if-x-least.true (omega (arith, w.if-source-below.true, w.source.ensures))
      | else-x-least w ↦ w.least-is ∙ elim w.else-x-least.branch [
        | else-x-least-via-then-x-least+else-source-below v ↦ pass-other _ _ _ _ _ _ _ i _ x (omega (arith, v.if-source-below.false, v.source.ensures))
        | else-x-least-via-else-x-least v ↦ pass_same _ _ _ _ _ _ _ i _ x v.if-x-least.false
      ]
    ]
