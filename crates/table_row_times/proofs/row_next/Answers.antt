use Rattle.minutes.specs.Believed.Minutes.{E}
use Rattle.table_row_times.proofs.SpanLaws.{in_reach, covered-at, covered-never}
use Rattle.table_row_times.proofs.row_next.Goals as goal

pub first_in-x-requires : goal.first_in-x-requires
first_in-x-requires c = in_reach _ _ c.requires.0 _ c.read_window-w.ensures _ c.requires.1 _ _ c.max.ensures c.requires.2

pub returns-then-x-w : goal.returns-then-x-w
returns-then-x-w c = covered-at _ _ c.requires.0 _ c.read_window-w.ensures _ c.requires.1 _ _ c.max.ensures _ c.first_in-x.ensures c.if-x-w.true

pub returns-else-x-w : goal.returns-else-x-w
unfolding E
returns-else-x-w c = covered-never _ _ c.requires.0 _ c.read_window-w.ensures _ c.requires.1 _ _ c.max.ensures _ c.first_in-x.ensures c.if-x-w.false
