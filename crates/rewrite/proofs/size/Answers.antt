use mathlib.Core.Path.{◌∙◌}
use Rattle.rewrite_rules.proofs.RewritingTheorems.{enough-told}
use Rattle.rewrite.proofs.size.Goals as goal

pub returns : goal.returns
returns c = c.rewrite_to.ensures.0 ∙ enough-told c.args.s.now
