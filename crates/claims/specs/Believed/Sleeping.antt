-- What document 02, item 3, is for: whether the host was paused or not makes no difference to who is left.
use Rattle.std.specs.Prelude.{ℕ, ◌+◌, ◌≤◌, ◌<◌, ◌≡◌, true, ◌↔◌}
use Rattle.ground.specs.Believed.Outcome.{given}
use Rattle.bitset.specs.Believed.Sets.{has}
use Rattle.policy.specs.Believed.Policy.{Policy, holds_any}
use Rattle.machine.specs.Believed.Machine.{advance, closed, staying, machine_step}
use Rattle.machine.specs.declared.Service.{Service}

-- a session stays open exactly when it was open and its user holds a permission at every minute after the old now, up to and with the new one
pub record Stays (π : Policy) (sessions now m u : ℕ) : Type 0 where
  pub iff : (has (staying π sessions now m) u ≡ true) ↔ ((has sessions u ≡ true) × ((v : ℕ) → now < v → v ≤ m → holds_any π v u ≡ true))

-- an advance to k and then to m leaves what an advance to m leaves, and closes as many in all
pub record TwoSteps (π : Policy) (σ : Service) (k m : ℕ) : Type 0 where
  pub first : ℕ
  pub second : ℕ
  pub closes-first : (machine_step π σ (advance k)).outcome ≡ given (closed first)
  pub closes-second : (machine_step π (machine_step π σ (advance k)).after (advance m)).outcome ≡ given (closed second)
  pub closes-both : (machine_step π σ (advance m)).outcome ≡ given (closed (first + second))
  pub leaves : (machine_step π (machine_step π σ (advance k)).after (advance m)).after ≡ (machine_step π σ (advance m)).after
