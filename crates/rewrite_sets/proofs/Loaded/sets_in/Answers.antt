-- Each test that fails says that the role does not keep the field.
use Rattle.std.proofs.Common.{sym, ◌∙◌}
use Rattle.rewrite_sets.specs.Role.{role_in}
use Rattle.rewrite_sets.proofs.SetsLaws.{has-both, not-enabled, no-users, no-permissions}
use Rattle.rewrite_sets.proofs.Loaded.sets_in.Goals as goal
use Rattle.rewrite_sets.proofs.Loaded.sets_in.Goals.{else-meets-via-then-meets+then-meets-2+else-contains, else-meets-via-then-meets+else-meets-2, else-meets-via-else-meets}

pub returns-then-contains : goal.returns-then-contains
returns-then-contains c =
    has-both (role_in c.args.self.now) c.args.mask _ _ (sym c.meets.ensures ∙ c.if-meets.true) (sym c.meets-then-meets.ensures ∙ c.if-meets-2.true)
    (sym c.contains.ensures ∙ c.if-contains.true) c.over.ensures c.over-then-contains.ensures

pub returns-else-meets : goal.returns-else-meets
returns-else-meets c = let ρ = role_in c.args.self.now in let m = c.args.mask in
    elim c.else-meets.branch [
      | else-meets-via-then-meets+then-meets-2+else-contains w ↦ not-enabled ρ m (sym w.contains.ensures ∙ w.if-contains.false)
      | else-meets-via-then-meets+else-meets-2 w ↦ no-permissions ρ m (sym w.meets-then-meets.ensures ∙ w.if-meets-2.false)
      | else-meets-via-else-meets w ↦ no-users ρ m (sym c.meets.ensures ∙ w.if-meets.false)
    ]
