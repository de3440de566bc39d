-- The users who are left, added to what there is, give what is asked for.
use Rattle.std.proofs.Common.{◌≡◌, length}
use Rattle.table_board.specs.Rows.{added}
use Rattle.table_board.proofs.add.Given as goal

abbrev pub invariant-loop-u : goal.invariant-loop-u
invariant-loop-u l = (length l.rights ≡ 64) × (added l.initial.rights l.users l.permissions ≡ added l.rights l.u-iterator.rest l.permissions)
