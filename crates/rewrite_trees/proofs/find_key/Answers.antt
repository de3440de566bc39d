-- A key as a pair of it and the empty set.
use Rattle.rewrite_trees.proofs.KeyLaws.{key-within, nothing-within}
use Rattle.rewrite_trees.proofs.find_key.Goals as goal

pub walk-requires-clause-indexed : goal.walk-requires-clause-indexed
walk-requires-clause-indexed c = (c.requires.indexed, key-within c.args.m c.ranges.m.fits, nothing-within 0)
