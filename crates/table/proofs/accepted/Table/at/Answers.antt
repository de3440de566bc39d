use Rattle.std.proofs.Common.{ℕ, ◌∙◌, ap, ◌%◌}
use Rattle.table.proofs.HeaderLaws.{laid, counts-are}
use Rattle.table.proofs.OpenedLaws.{opened-header}
use Rattle.table.proofs.accepted.Table.at.Goals as goal

pub phase-requires : goal.phase-requires
phase-requires c = (laid _ _ (opened-header _ _ c.args.self.now.opened)).cycle-some

pub invariant_of-result : goal.invariant_of-result
invariant_of-result c =
    record { in_cycle = c.phase.ensures ∙ ap (λ (k : ℕ). c.args.minute % k) (counts-are _ _ c.args.self.now.opened.counts).cycle }
