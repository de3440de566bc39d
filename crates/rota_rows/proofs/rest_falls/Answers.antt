-- The place of the row before is kept.
use Rattle.std.proofs.Common.{◌≡◌, ◌+◌, ◌*◌, sym, ap, ◌∙◌, arith}
use Rattle.ground.proofs.SearchLaws.{any_none, any-more, any-stop}
use Rattle.rota_rows.specs.Rows.{place_at}
use Rattle.rota_rows.proofs.FallLaws.{falls-yes, falls-no}
use Rattle.rota_rows.proofs.rest_falls.Goals as goal

pub loop-k-init : goal.loop-k-init
loop-k-init c =
    let a = c.args in
    (c.place_at-last.ensures.0 ∙ ap (place_at a.s.now) (let e : a.at ≡ a.at + 3 * 0 = omega arith in e), any_none _)

pub returns-then-next-last : goal.returns-then-next-last
returns-then-next-last c =
    sym (any-stop _ _ _ (omega arith) (falls-yes _ _ _ _ c.loop-k.invariant.0 c.place_at-next.ensures.0 (omega arith)))

pub loop-k-preserved : goal.loop-k-preserved
loop-k-preserved c =
    let l = c.loop-k in
    let a = c.args in (
      c.place_at-next.ensures.0 ∙ ap (place_at a.s.now) (let e : a.at + 3 * l.k + 3 ≡ a.at + 3 * (l.k + 1) = omega arith in e),
      any-more _ _ l.invariant.1 (falls-no _ _ _ _ l.invariant.0 c.place_at-next.ensures.0 (omega arith)),
    )
