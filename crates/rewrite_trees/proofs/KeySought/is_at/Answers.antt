use mathlib.Core.Path.{sym, ◌∙◌}
use borrow.Author.Tests.{eq-eqb, eqb-true}
use Rattle.rewrite_trees.proofs.KeyLaws.{users-key, permissions-key}
use Rattle.rewrite_trees.proofs.KeySought.is_at.Goals as goal

pub returns : goal.returns
returns c =
    let s = c.args.self.now in
    let k = c.args.k in
    (λ t. (users-key s.keys.now k ∙ eqb-true _ _ t, permissions-key s.keys.now k), λ e. eq-eqb _ _ (sym (users-key s.keys.now k) ∙ e.0))
