-- The rows so far are not refused, and the row before is at hand with its source.
use mathlib.Core.Path.{refl, sym, ◌∙◌}
use native.Mathlib.Omega.{arith}
use Rattle.table.proofs.FineLaws.{row-alone}
use Rattle.table_reader.proofs.RowLaws.{rows_none, row_read, row-bad, row-astray, row_next}
use Rattle.table.proofs.HeaderLaws.{laid}
use Rattle.table_reader.proofs.judge_rows.Goals as goal

pub loop-i-init : goal.loop-i-init
loop-i-init c = let e = c.default-before.ensures in rw (e.0, e.1.0, e.1.1.0, e.1.1.1) (rows_none _ _)

pub read32-derived-requires : goal.read32-derived-requires
read32-derived-requires c = omega (arith, (laid _ _ c.requires).whole)

pub read_window-w-requires : goal.read_window-w-requires
read_window-w-requires c = omega (arith, (laid _ _ c.requires).whole)

pub returns-then-row_refused : goal.returns-then-row_refused
returns-then-row_refused c =
    let p = c.requires.counts in
    row-bad _ _ _ _ _ c.loop-i.invariant c.loop-i-test.true p _
    (row_read _ _ _ _ _ _ p refl c.read32-derived.ensures c.read_window-w.ensures) _ c.row_refused.ensures c.if-row_refused.true

pub read8-source-requires : goal.read8-source-requires
read8-source-requires c =
    let f = row-alone _ _ _ (sym c.row_refused.ensures ∙ c.if-row_refused.false) in
    omega (arith, f.derived, (laid _ _ c.requires).whole)

pub loop-i-preserved : goal.loop-i-preserved
loop-i-preserved c =
    let p = c.requires.counts in
    row_next _ _ _ _ _ c.loop-i.invariant c.loop-i-test.true p _
    (row_read _ _ _ _ _ _ p refl c.read32-derived.ensures c.read_window-w.ensures) _ c.row_refused.ensures c.if-row_refused.false _
    c.read8-source.ensures.0 _ c.window_follows.ensures c.if-not-window_follows.false

pub returns-then-not-window_follows : goal.returns-then-not-window_follows
returns-then-not-window_follows c =
    let p = c.requires.counts in
    row-astray _ _ _ _ _ c.loop-i.invariant c.loop-i-test.true p _
    (row_read _ _ _ _ _ _ p refl c.read32-derived.ensures c.read_window-w.ensures) _ c.row_refused.ensures c.if-row_refused.false _
    c.read8-source.ensures.0 _ c.window_follows.ensures c.if-not-window_follows.true
