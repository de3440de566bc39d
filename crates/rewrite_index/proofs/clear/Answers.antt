use Rattle.rewrite_index.proofs.LinkLaws.{index-none, cleared}
use Rattle.rewrite_index.proofs.clear.Goals as goal

pub returns : goal.returns
returns c = λ pairs a b. index-none c.args.w _ pairs a b (cleared _ _ _ c.requires (c.fill.ensures.after (λ y h. h)))
