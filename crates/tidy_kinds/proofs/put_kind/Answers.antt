-- Rows that are in order already are copied.
use mathlib.Core.Path.{sym, ap, ◌∙◌}
use native.Mathlib.Omega.{arith}
use lib.Seq.{sets}
use Rattle.tidy_kinds.proofs.OrderedLaws.{in-order-long, in-order-bytes}
use Rattle.tidy_kinds.proofs.put_kind.Goals as goal

pub copy-requires : goal.copy-requires
copy-requires c =
    let a = c.args in
    let p = c.requires in
    let e = in-order-long a.s.now a.at a.n p.0 (sym c.any_falls.ensures ∙ c.if-not-any_falls.true) in
    (omega (arith, p.1, e), p.0.within)

pub returns-then-not-any_falls : goal.returns-then-not-any_falls
returns-then-not-any_falls c =
    let a = c.args in
    let p = c.requires in
    let up = sym c.any_falls.ensures ∙ c.if-not-any_falls.true in
    let e = in-order-long a.s.now a.at a.n p.0 up in (
      c.copy.ensures
          ∙ ap (sets a.out.now a.to) (in-order-bytes a.s.now a.at a.n p.0 up (λ i. omega (arith, c.type_inv.s i))),
      omega (arith, e),
    )
