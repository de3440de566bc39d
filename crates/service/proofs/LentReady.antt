-- What a call knows of the bytes that are lent with it.
-- Assumes nothing.
use Rattle.std.proofs.Common.{◌≡◌, ℕ, ◌+◌, ◌^◌, ◌≤◌, ◌<◌, List, Option, ap, ◌∙◌, arith}
use Rattle.ground.specs.Believed.Judgement.{◌or_else◌}
use Rattle.minutes.specs.Believed.Minutes.{E}
use Rattle.policy.specs.Believed.Policy.{Policy, holders_at}
use Rattle.policy.specs.Believed.Steady.{steady_over}
use Rattle.policy.proofs.SteadyLaws.{steady-everyone}
use Rattle.source.specs.Believed.Lent.{judged_as, policy_as}
use Rattle.source.specs.Inside.{LentAs, policy_in}
use Rattle.source.specs.declared.Kind.{Kind}
use Rattle.source.specs.declared.Source.{Source}
use Rattle.source.proofs.LentLaws.{lent-policy, lent-judged, few}
use Rattle.machine.specs.Believed.Machine.{state_judged, advance_judged}
use Rattle.machine.specs.declared.Service.{Service}
use Rattle.machine.proofs.CoreLaws.{advance-early, advance-forth, advance-open}
use Rattle.service.proofs.StepLaws.{Ready}

module _ {kind : Kind} {s : List ℕ} {x : Source} (w : LentAs kind s x) where
  pub ready : {users permissions : ℕ} → users ≡ (policy_in x).users → permissions ≡ (policy_in x).permissions
      → Ready (judged_as kind s) users permissions (policy_as kind s)
  ready eu ep =
      record {
        accepted = lent-judged w;
        users-are = eu ∙ ap (λ (π : Policy). π.users) (lent-policy w);
        permissions-are = ep ∙ ap (λ (π : Policy). π.permissions) (lent-policy w);
        few = omega (arith, eu, few x);
      }

  -- what the source answers is what the bytes answer
  pub steady-are : (among a b : ℕ) {h : ℕ} → h ≡ steady_over (policy_in x) among a b → h ≡ steady_over (policy_as kind s) among a b
  steady-are among a b e = e ∙ ap (λ (π : Policy). steady_over π among a b) (lent-policy w)

  pub answer-is : (u p t : ℕ) {o : Option ℕ} → o ≡ (policy_in x).answer u p t → o ≡ (policy_as kind s).answer u p t
  answer-is u p t e = e ∙ ap (λ (π : Policy). π.answer u p t) (lent-policy w)

  -- of everyone, those who hold a permission at a minute
  pub everyone : (t : ℕ) {h : ℕ} → h ≡ steady_over (policy_in x) 18446744073709551615 t (t + 1) → h ≡ holders_at (policy_as kind s) t
  everyone t e = steady-everyone (policy_as kind s) (rw (← lent-policy w) (few x)) t (steady-are 18446744073709551615 t (t + 1) e)

-- the minutes that an advance judges, where it is not refused
module _ (users : ℕ) (σ : Service) (m n : ℕ) (e : n ≡ state_judged users σ or_else advance_judged σ m) (z : n ≡ 0) where
  pub judged-minutes : (σ.now + 1 ≤ m + 1) × (m + 1 ≤ E)
  judged-minutes = (omega (arith, advance-forth users σ m n e z), omega (arith, advance-early users σ m n e z))

  pub judged-open : (x : Source) → users ≡ (policy_in x).users → σ.«open» < 2 ^ (policy_in x).users
  judged-open x eu = rw eu at (advance-open users σ m n e z)
