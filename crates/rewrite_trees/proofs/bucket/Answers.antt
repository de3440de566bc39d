use mathlib.Core.Path.{refl}
use Rattle.rewrite_trees.specs.Tree.{bucket_of}
use Rattle.rewrite_trees.proofs.TurnLaws.{bucket-small, spread-fits, square-fits, scale-fits}
use Rattle.rewrite_trees.proofs.bucket.Goals as goal

pub overflow_add-sum-3 : goal.overflow_add-sum-3
overflow_add-sum-3 c = record { fits = spread-fits c.args.u c.args.p c.ranges.u.fits c.ranges.p.fits }

pub overflow_mul-result : goal.overflow_mul-result
overflow_mul-result c = record { fits = square-fits _ }

pub overflow_mul-result-2 : goal.overflow_mul-result-2
overflow_mul-result-2 c = record { fits = scale-fits _ c.args.w c.requires.1 }

pub returns : goal.returns
unfolding bucket_of
returns c = (refl, bucket-small c.args.w c.args.u c.args.p c.requires.0)
