-- Whether a slot of the mask is in use is whether the union has a member.
use Rattle.std.proofs.Common.{not, ap, ◌∙◌}
use Rattle.bitset.specs.Believed.Sets.{intersection}
use Rattle.rewrite_unions.proofs.UnionLaws.{union-meets}
use Rattle.rewrite_unions.proofs.Unions.meets.Goals as goal

pub returns : goal.returns
returns c =
    rw (← c.self.view_is) (ap not (union-meets c.self.inside.sets c.args.mask _ c.self.invariant.fit (c.both.ensures ∙ ap (intersection c.args.mask) c.self.invariant.used-are)))
