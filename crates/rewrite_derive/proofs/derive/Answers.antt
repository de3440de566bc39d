use Rattle.std.proofs.Common.{◌≡◌, ℕ, max, get_or, refl, sym, ◌∙◌, ap, arith}
use Rattle.bitset.specs.Believed.Sets.{insert, intersection}
use Rattle.rewrite_sets.specs.Role.{role_in, kept_by}
use Rattle.rewrite_derive.proofs.NamedLaws.{named-same}
use Rattle.rewrite_derive.proofs.DeriveLaws.{Turned, going_start, going-turn, going-again, deriving-to}
use Rattle.rewrite_derive.proofs.derive.Goals as goal
use Rattle.rewrite_derive.proofs.derive.Goals.{then-m-last, else-m-last}

pub loop-i-init : goal.loop-i-init
loop-i-init c = going_start _ c.requires.1 (c.clear.ensures _ _ _) c.clear.auto.links

pub returns-then-limit-d : goal.returns-then-limit-d
returns-then-limit-d c = let g = c.loop-i.invariant in deriving-to g.so_far g.room.for-sets c.args.limit (λ h. absurd (omega (arith, c.if-limit-d.true)))

pub loop-i-preserved : goal.loop-i-preserved
loop-i-preserved c =
    let ρ = role_in c.args.role.now in
    let l = c.loop-i in
    let g = l.invariant in
    let j = c.if-m-last in
    let m = c.both-m.result in
    let named = c.named-named.result in
    let same : kept_by ρ m ≡ kept_by ρ (insert (get_or c.args.sets.now l.i 0) 32) = ap (kept_by ρ) (c.both-m.ensures ∙ ap (λ (x : ℕ). intersection x named) c.mask_at.ensures) ∙ named-same ρ named c.named-named.ensures c.requires.0 _ in
    let step : Turned ρ c.args.w m l.d l.pairs j.pairs j.links j.d j.mark × (j.last ≡ m) =
    elim j.branch [
      | then-m-last w ↦ rw (w.pairs-is, w.links-is, w.last-is, w.mark-is, w.d-is) (record { place = w.enter_field.result; mark-is = w.mark_at-mark.ensures; grown-is = w.max-d.ensures ∙ ap (max l.d) w.mark_at-mark.ensures; marked = w.enter_field.ensures.0; indexed = w.enter_field.ensures.1 }, refl)
      | else-m-last w ↦ rw (w.pairs-is, w.links-is, w.last-is, w.mark-is, w.d-is) (going-again g w.if-m-last.false, sym w.if-m-last.false)
    ] in
    let s = step.0 in
    rw (s.grown-is, s.mark-is, step.1) (going-turn g j.pairs j.links m s.place c.loop-i-test.true same s.marked s.indexed j.auto.pairs j.auto.links)

pub returns : goal.returns
returns c = let g = c.loop-i.invariant in deriving-to g.so_far g.room.for-sets c.args.limit (λ h. c.loop-i-test.false)
