-- Each slot has the numbers of the role's rows so far with those hours.
use Rattle.std.proofs.Common.{◌≡◌}
use Rattle.ground.specs.Believed.Sequence.{list_of}
use Rattle.rota.specs.Believed.RotaBytes.{row_at}
use Rattle.rewrite_sets.specs.Role.{by_slot}
use Rattle.rewrite_role.proofs.by_slot.Given as goal

abbrev pub invariant-loop-i : goal.invariant-loop-i
invariant-loop-i l = l.sets ≡ by_slot (list_of l.i (row_at l.s l.at)) l.role
