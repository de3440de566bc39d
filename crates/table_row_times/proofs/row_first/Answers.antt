use Rattle.std.proofs.Common.{sym, ◌∙◌}
use Rattle.table_row_times.proofs.RowLaws.{begins-late, is-over, not-both, first-both}
use Rattle.table_row_times.proofs.row_first.Goals as goal
use Rattle.table_row_times.proofs.row_first.Goals.{then-best-w-via-then-best-w, then-best-w-via-else-best-w+then-w-m}

pub returns-then-best-w : goal.returns-then-best-w
returns-then-best-w c =
    elim c.then-best-w.branch [
      | then-best-w-via-then-best-w w ↦ begins-late _ _ _ _ _ _ _ c.read_window-w.ensures w.if-best-w.true
      | then-best-w-via-else-best-w+then-w-m w ↦ is-over _ _ _ _ _ _ _ c.read_window-w.ensures w.if-w-m.true
    ]

pub returns-then-has_both : goal.returns-then-has_both
returns-then-has_both c =
    c.min.ensures ∙ first-both _ _ _ _ _ _ _ c.row_next.ensures c.requires.5 (sym c.has_both.ensures ∙ c.if-has_both.true)

pub returns : goal.returns
returns c = not-both _ _ _ _ _ _ (sym c.has_both.ensures ∙ c.if-has_both.false)
