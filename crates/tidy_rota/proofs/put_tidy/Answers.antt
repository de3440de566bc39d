-- A tidy rota is copied; else the parts are stored one by one, and the header last.
use Rattle.std.proofs.Common.{ap, arith, length}
use Rattle.tidy_rota.proofs.LocatedLaws.{users-kind, permissions-kind, users-most, permissions-most, long, within, length-is, tidy-already, put-already, put_all}
use Rattle.tidy_rota.proofs.put_tidy.Goals as goal

pub copy-requires : goal.copy-requires
copy-requires c =
    let r = c.args.rota.now in
    (omega (arith, c.requires.1, ap length (tidy-already r.bytes.now r.layout r.located c.requires.0 c.if-n-eq3.true)), omega arith)

pub returns-then-n-eq3 : goal.returns-then-n-eq3
returns-then-n-eq3 c =
    let r = c.args.rota.now in
    let b = c.requires.0 in
    let e = c.if-n-eq3.true in
    (put-already r.bytes.now r.layout r.located b e _ _ c.copy.ensures, ap length (tidy-already r.bytes.now r.layout r.located b e))

pub overflow_sub-first : goal.overflow_sub-first
overflow_sub-first c = let r = c.args.rota.now in omega (arith, within r.bytes.now r.layout r.located)

pub copy-requires-2 : goal.copy-requires-2
copy-requires-2 c =
    let r = c.args.rota.now in
    let w = within r.bytes.now r.layout r.located in
    (omega (arith, w, c.requires.1, length-is r.bytes.now r.layout r.located c.requires.0), omega (arith, w))

pub put_kind-second-requires : goal.put_kind-second-requires
put_kind-second-requires c =
    let r = c.args.rota.now in
    (users-kind r.bytes.now r.layout r.located, omega (arith, c.requires.1, length-is r.bytes.now r.layout r.located c.requires.0))

pub put_kind-end-requires : goal.put_kind-end-requires
put_kind-end-requires c =
    let r = c.args.rota.now in
    (permissions-kind r.bytes.now r.layout r.located, omega (arith, c.requires.1, length-is r.bytes.now r.layout r.located c.requires.0))

pub overflow_cast-second : goal.overflow_cast-second
overflow_cast-second c = let r = c.args.rota.now in omega (arith, users-most r.bytes.now r.layout r.located)

pub overflow_cast-end : goal.overflow_cast-end
overflow_cast-end c = let r = c.args.rota.now in omega (arith, permissions-most r.bytes.now r.layout r.located)

pub put_header-requires : goal.put_header-requires
put_header-requires c =
    let r = c.args.rota.now in (
      omega (arith, c.requires.1, length-is r.bytes.now r.layout r.located c.requires.0, within r.bytes.now r.layout r.located),
      long r.bytes.now r.layout r.located,
    )

pub returns : goal.returns
returns c =
    let r = c.args.rota.now in
    let b = c.requires.0 in
    let first = c.put_kind-second.ensures in
    let second = c.put_kind-end.ensures in (
      put_all r.bytes.now r.layout r.located b c.args.out.now _ _ _ _ _ _ _ first.1 (omega (arith, first.1)) (omega (arith, first.1, second.1))
          c.copy-2.ensures first.0 second.0 c.put_header.ensures,
      omega (arith, first.1, second.1, length-is r.bytes.now r.layout r.located b),
    )
