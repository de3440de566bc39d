-- It adds nobody, or those whom it has, for as long as rows go on giving them a permission.
use Rattle.std.proofs.Common.{arith, refl}
use Rattle.minutes.specs.Believed.Minutes.{E}
use Rattle.table_holding.proofs.HeldLaws.{held_same, held_more, gain-among, gain-all, gain-none, row-reaches, row-dates, cycle-few}
use Rattle.table_holding.proofs.with_row.Goals as goal

pub overflow_sub-result : goal.overflow_sub-result
overflow_sub-result c = omega (arith, (row-reaches _ _ c.args.moment.now.table.opened _ _ _ _ _ c.requires.0 _ _ _ c.users.ensures c.both.ensures c.lost-gain.ensures _ c.args.moment.now.in_cycle _ c.window-w.ensures _ refl).after)

pub overflow_add-result : goal.overflow_add-result
unfolding E
overflow_add-result c = omega (arith, (row-reaches _ _ c.args.moment.now.table.opened _ _ _ _ _ c.requires.0 _ _ _ c.users.ensures c.both.ensures c.lost-gain.ensures _ c.args.moment.now.in_cycle _ c.window-w.ensures _ refl).in-cycle, cycle-few _ _ c.args.moment.now.table.opened, c.requires.2)

pub returns-then-gain-eq0 : goal.returns-then-gain-eq0
returns-then-gain-eq0 c =
    let o = c.args.moment.now.table.opened in
    held_same _ o.clear _ _ _ _ _ _ c.requires.3 (gain-none _ _ o _ _ _ _ _ c.requires.0 _ _ _ c.users.ensures c.both.ensures c.lost-gain.ensures c.if-gain-eq0.true)

pub follow-g-requires : goal.follow-g-requires
follow-g-requires c = (c.requires.1, c.requires.2, row-reaches _ _ c.args.moment.now.table.opened _ _ _ _ _ c.requires.0 _ _ _ c.users.ensures c.both.ensures c.lost-gain.ensures _ c.args.moment.now.in_cycle _ c.window-w.ensures _ refl)

pub overflow_add-until : goal.overflow_add-until
unfolding E
overflow_add-until c = omega (arith, c.follow-g.ensures.in-cycle, cycle-few _ _ c.args.moment.now.table.opened, c.requires.2)

pub returns : goal.returns
returns c =
    let o = c.args.moment.now.table.opened in
    let q = c.requires in
    held_more _ o.clear _ _ _ _ _ _ q.3 _ _ _ _ _ _ _ c.follow-g.ensures
    (λ u m h. (gain-among _ _ o _ _ _ _ _ q.0 _ _ _ c.users.ensures c.both.ensures c.lost-gain.ensures u m h).0)
    (gain-all _ _ o _ _ _ _ _ q.0 _ _ _ c.users.ensures c.both.ensures c.lost-gain.ensures)
    (row-dates _ _ o _ _ _ _ _ q.0 _ _ _ c.users.ensures c.both.ensures c.lost-gain.ensures _ c.args.moment.now.in_cycle _ c.window-w.ensures)
    c.either.ensures c.min.ensures c.min-2.ensures
