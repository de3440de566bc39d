use Rattle.std.proofs.Common.{refl, sym}
use Rattle.rewrite_derive.proofs.MarkLaws.{grown-none, grown-after, mark-none, mark-kept, index-then}
use Rattle.rewrite_derive.proofs.enter_field.Goals as goal

pub returns-in_err-x : goal.returns-in_err-x
returns-in_err-x c =
    rw c.from_residual.ensures
    (mark-none _ c.args.d _ _ (sym c.in_err-x.ensures.kept), index-then (sym (grown-none c.args.d)) refl refl c.requires.indexed)

pub returns : goal.returns
returns c = let e = c.enter.ensures in
    (mark-kept e.0 _ (sym c.in_ok-x.ensures.kept), index-then (sym (grown-after c.args.d c.enter.result e.0.most)) (sym c.all-a.ensures) (sym c.all-b.ensures) e.1)
