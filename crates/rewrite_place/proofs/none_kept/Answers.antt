use Rattle.std.proofs.Common.{arith}
use Rattle.rewrite_count.proofs.KeptLaws.{start_fits}
use Rattle.rewrite_place.proofs.none_kept.Goals as goal

pub overflow_mul-roles : goal.overflow_mul-roles
overflow_mul-roles c = omega (arith, start_fits c.args.roles c.args.n c.requires.0 c.requires.1)

pub overflow_mul-roles-2 : goal.overflow_mul-roles-2
overflow_mul-roles-2 c = omega (arith, start_fits c.args.roles c.args.n c.requires.0 c.requires.1)

pub overflow_mul-roles-3 : goal.overflow_mul-roles-3
overflow_mul-roles-3 c = omega (arith, start_fits c.args.roles c.args.n c.requires.0 c.requires.1)
