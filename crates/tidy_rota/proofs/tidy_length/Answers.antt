-- The rota's own length where it is tidy; else where the rows begin, and three bytes for each.
use Rattle.std.proofs.Common.{ap, arith, length}
use Rattle.tidy_rota.proofs.LocatedLaws.{users-count, permissions-count, users-most, permissions-most, within, length-is, tidy-already}
use Rattle.tidy_rota.proofs.tidy_length.Goals as goal

pub returns-then-format-eq3 : goal.returns-then-format-eq3
returns-then-format-eq3 c = let r = c.args.rota.now in ap length (tidy-already r.bytes.now r.layout r.located c.requires c.if-format-eq3.true)

pub count_kind-users-requires : goal.count_kind-users-requires
count_kind-users-requires c = let r = c.args.rota.now in users-count r.bytes.now r.layout r.located

pub count_kind-permissions-requires : goal.count_kind-permissions-requires
count_kind-permissions-requires c = let r = c.args.rota.now in permissions-count r.bytes.now r.layout r.located

pub overflow_mul-result : goal.overflow_mul-result
overflow_mul-result c = let r = c.args.rota.now in omega (arith, users-most r.bytes.now r.layout r.located)

pub overflow_add-result : goal.overflow_add-result
overflow_add-result c =
    let r = c.args.rota.now in
    omega (arith, users-most r.bytes.now r.layout r.located, within r.bytes.now r.layout r.located, length-is r.bytes.now r.layout r.located c.requires)

pub overflow_mul-result-2 : goal.overflow_mul-result-2
overflow_mul-result-2 c = let r = c.args.rota.now in omega (arith, permissions-most r.bytes.now r.layout r.located)

pub overflow_add-result-2 : goal.overflow_add-result-2
overflow_add-result-2 c =
    let r = c.args.rota.now in
    omega (
      arith,
      users-most r.bytes.now r.layout r.located,
      permissions-most r.bytes.now r.layout r.located,
      within r.bytes.now r.layout r.located,
    )

pub returns : goal.returns
returns c = let r = c.args.rota.now in omega (arith, length-is r.bytes.now r.layout r.located c.requires)
