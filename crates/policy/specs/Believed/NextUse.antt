-- When a permission can next be used (document 02, item 1): from a minute m the first minute, m included, at which a user may use a permission, or
-- none before E.
use Rattle.std.specs.Prelude.{ℕ, ◌&&◌, leb, Option}
use Rattle.ground.specs.Believed.Judgement.{◌or_else◌}
use Rattle.ground.specs.Believed.Outcome.{Outcome, outcome}
use Rattle.ground.specs.Believed.Search.{lowest_below}
use Rattle.minutes.specs.Believed.Minutes.{E}
use Rattle.policy.specs.Believed.Policy.{Policy, is_yes, arguments_judged}

-- the first minute from m on at which the answer is yes
unfoldable pub next_use : Policy → ℕ → ℕ → ℕ → Option ℕ
next_use π u p m = lowest_below E (λ t. leb m t && is_yes (π.answer u p t))

-- refusals in the order of one question, then that minute, or none
unfoldable pub next_use_question : ℕ → Policy → ℕ → ℕ → ℕ → Outcome (Option ℕ)
next_use_question bytes π u p m = outcome (bytes or_else arguments_judged π.users π.permissions u p m) (next_use π u p m)
