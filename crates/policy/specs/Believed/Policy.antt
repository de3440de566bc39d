-- What a rota and a table have in common: they answer a question at each minute (document 01, "Refusals by operation", one question without a
-- service). A user is 01's volunteer and a permission is 01's right, as in document 003.
use Rattle.std.specs.Prelude.{ℕ, Bool, true, false, leb, Option, None, Some}
use Rattle.ground.specs.Believed.Judgement.{refuse, ◌or_else◌}
use Rattle.ground.specs.Believed.Outcome.{Outcome, outcome}
use Rattle.ground.specs.Believed.Search.{any_below}
use Rattle.bitset.specs.Believed.Sets.{set_of}
use Rattle.minutes.specs.Believed.Minutes.{E}

-- how many users and permissions there are, and the answer for a user, a permission and a minute: yes with a role, or no
pub record Policy : Type 0 where
  pub users : ℕ
  pub permissions : ℕ
  pub answer : ℕ → ℕ → ℕ → Option ℕ

abbrev pub is_yes : Option ℕ → Bool
is_yes None = false
is_yes (Some r) = true

-- user u holds a permission at t, and the set of those who do
unfoldable pub holds_any : Policy → ℕ → ℕ → Bool
holds_any π t u = any_below π.permissions (λ p. is_yes (π.answer u p t))

unfoldable pub holders_at : Policy → ℕ → ℕ
holders_at π t = set_of π.users (holds_any π t)

-- one question: the bytes' refusal, then 33, 34, 35, then the answer
unfoldable pub arguments_judged : ℕ → ℕ → ℕ → ℕ → ℕ → ℕ
arguments_judged users permissions u p t = refuse 33 (leb E t) or_else refuse 34 (leb users u) or_else refuse 35 (leb permissions p)

unfoldable pub question : ℕ → Policy → ℕ → ℕ → ℕ → Outcome (Option ℕ)
question bytes π u p t = outcome (bytes or_else arguments_judged π.users π.permissions u p t) (π.answer u p t)
