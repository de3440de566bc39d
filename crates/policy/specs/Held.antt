-- What the steps of a sweep over minutes promise each other, which no reader has to believe.
use Rattle.std.specs.Prelude.{ℕ, ◌≤◌, ◌<◌, ◌≡◌, true}
use Rattle.bitset.specs.Believed.Sets.{has, intersection}
use Rattle.minutes.specs.Believed.Minutes.{E}
use Rattle.minutes.specs.Lasting.{Lasting}
use Rattle.policy.specs.Believed.Policy.{Policy, holds_any, holders_at}

-- of `among` the set has those who hold a permission at t; each of them does to before `until`, and, by the cycle of c minutes, to before `era`
pub record HeldAmong (π : Policy) (c among t set until era : ℕ) : Type 0 where
  pub is : set ≡ intersection among (holders_at π t)
  pub lasts : (u : ℕ) → u < π.users → has set u ≡ true → Lasting (λ v. holds_any π v u) c t until era
  pub after : t < until
  pub longer : t < era
  pub era-most : era ≤ E
