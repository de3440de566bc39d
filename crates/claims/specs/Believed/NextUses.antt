-- What document 02, item 1, asks of the next use, as one claim over whatever answers questions. `next-uses` of
-- proofs/NextUseAgreed.antt proves it of every policy.
use Rattle.std.specs.Prelude.{ℕ, ◌≤◌, ◌<◌, ◌≡◌, ◌↔◌, true, false, None, Some}
use Rattle.minutes.specs.Believed.Minutes.{E}
use Rattle.policy.specs.Believed.Policy.{Policy, is_yes}
use Rattle.policy.specs.Believed.NextUse.{next_use}

-- from minute m on, of user u and permission p
pub record NextUses (π : Policy) (u p m : ℕ) : Type 0 where
  -- none is given exactly when no such minute exists: the answer is yes at no minute from m to before E
  pub none-given : (next_use π u p m ≡ None) ↔ ((v : ℕ) → m ≤ v → v < E → is_yes (π.answer u p v) ≡ false)
  -- a minute given has none earlier: it is t exactly when the answer is yes at t and at no minute from m to before t
  pub minute-given : (t : ℕ) → (next_use π u p m ≡ Some t)
      ↔ ((m ≤ t) × (t < E) × (is_yes (π.answer u p t) ≡ true)
      × ((v : ℕ) → m ≤ v → v < t → is_yes (π.answer u p v) ≡ false))
