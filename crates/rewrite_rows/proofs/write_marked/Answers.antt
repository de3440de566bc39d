use native.Mathlib.Omega.{arith}
use lib.ListN.{length}
use mathlib.Core.Path.{ap}
use Rattle.rewrite_rows.specs.Parts.{cell_of}
use Rattle.rewrite_rows.proofs.FieldLaws.{no_row, one-row, row_written}
use Rattle.rewrite_rows.proofs.write_marked.Goals as goal

pub returns-then-m-eq0 : goal.returns-then-m-eq0
returns-then-m-eq0 c = let a = c.args in no_row a.base (cell_of a.begin a.end a.low a.high) a.out.now a.at a.m c.if-m-eq0.true

pub write_row-requires : goal.write_row-requires
write_row-requires c = let a = c.args in omega (arith, c.requires.0, ap length (one-row a.base (cell_of a.begin a.end a.low a.high) a.out.now a.at a.m c.if-m-eq0.false))

pub returns : goal.returns
returns c = let a = c.args in row_written a.base (cell_of a.begin a.end a.low a.high) a.out.now a.at a.m _ c.if-m-eq0.false c.write_row.ensures
