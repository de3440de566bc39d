-- No minute, one minute; else those who hold a permission to before the next cycle are left.
use Rattle.std.proofs.Common.{ap, ◌∙◌, arith}
use mathlib.Core.Logic.{⊎_elim}
use native.Mathlib.Nat.{le_refl, le_antisymm}
use Rattle.bitset.specs.Believed.Sets.{intersection}
use Rattle.minutes.specs.Believed.Minutes.{E}
use Rattle.policy.proofs.SteadyLaws.{steady-one, steady-all, steady-more, steady-over, steady-small}
use Rattle.source.proofs.LentLaws.{few, cycle-fine}
use Rattle.service_sweep.proofs.steady.Goals as goal

pub returns-then-a-b : goal.returns-then-a-b
returns-then-a-b c =
    steady-all _ _ _ _ (omega (arith, c.if-a-b.true)) (⊎_elim (λ w. w) (λ w. absurd (omega (arith, w, c.if-a-b.true))) c.requires.2)

pub overflow_sub-b : goal.overflow_sub-b
overflow_sub-b c = c.requires.0

pub holders_at-requires : goal.holders_at-requires
holders_at-requires c = omega (arith, c.if-b-a-eq1.true, c.requires.1)

pub returns-then-b-a-eq1 : goal.returns-then-b-a-eq1
returns-then-b-a-eq1 c =
    steady-one _ (few c.args.source.now) _ _ _ (omega (arith, c.if-b-a-eq1.true, c.requires.0)) (c.both.ensures ∙ ap (intersection _) c.holders_at.ensures)

pub loop-turn-init : goal.loop-turn-init
unfolding E
loop-turn-init c =
    let p = c.requires in
    let z = cycle-fine c.args.source.now in (
      le_refl _,
      p.0,
      ⊎_elim (λ w. steady-all _ _ _ _ (le_refl _) w) (λ w. absurd (c.if-b-a-eq1.false (omega arith))) p.2,
      omega (arith, z.0, c.cycle.ensures),
      omega (arith, z.1, c.cycle.ensures),
    )

pub returns-then-turn-eq0 : goal.returns-then-turn-eq0
returns-then-turn-eq0 c = let i = c.loop-turn.invariant in steady-over _ _ _ _ _ i.0 i.1 i.2 c.if-turn-eq0.true

pub one_cycle-turn-requires : goal.one_cycle-turn-requires
one_cycle-turn-requires c =
    let i = c.loop-turn.invariant in
    (c.loop-turn-test.true, c.requires.1, rw i.2 (steady-small _ _ _ _), i.3, i.4, c.prepare-hours.ensures)

pub loop-turn-smaller : goal.loop-turn-smaller
loop-turn-smaller c = let z = c.one_cycle-turn.ensures in omega (arith, z.1, z.2)

pub loop-turn-preserved : goal.loop-turn-preserved
loop-turn-preserved c =
    let i = c.loop-turn.invariant in
    let z = c.one_cycle-turn.ensures in
    (omega (arith, i.0, z.1), z.2, steady-more _ _ _ _ _ i.0 (omega (arith, z.1)) i.2 z.0, z.3, z.4)

pub returns : goal.returns
returns c = let i = c.loop-turn.invariant in rw (le_antisymm i.1 c.loop-turn-test.false) at i.2
