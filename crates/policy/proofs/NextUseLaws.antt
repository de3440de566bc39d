-- When a permission can next be used.
--     next-at, next-none                           which minute is given, and when none is
--     bytes-refused, numbers-refused, next-given   the question's outcome, by the stage at which it ends
--     same_next                                    policies that agree have the same next uses
-- Assumes nothing.
use Prim.Native.Nat.{ℕ, zero, suc, ◌≤◌, ◌<◌}
use mathlib.Core.Path.{◌≡◌, refl, sym, ap, ◌∙◌}
use mathlib.Core.Logic.{◌↔◌}
use mathlib.Core.Bool.{true, false, ◌&&◌}
use Rattle.std.proofs.Common.{Option, None, Some}
use native.Mathlib.Omega.{arith}
use lib.Dec.{leb}
use Rattle.ground.specs.Believed.Outcome.{refused, given}
use Rattle.ground.proofs.SearchLaws.{lowest-same}
use Rattle.ground.proofs.FromLaws.{from_at, from-none}
use Rattle.minutes.specs.Believed.Minutes.{E}
use Rattle.policy.specs.Believed.Policy.{Policy, is_yes, arguments_judged}
use Rattle.policy.specs.Believed.NextUse.{next_use, next_use_question}
use Rattle.policy.proofs.QuestionOutcome.{bytes-stop, numbers-stop, answered, numbers-below}

module _ (π : Policy) (u p m : ℕ) where
  -- a minute that is given is not before m, the answer is yes there, and no earlier minute will do
  pub next-at : (t : ℕ) → (next_use π u p m ≡ Some t)
      ↔ ((m ≤ t) × (t < E) × (is_yes (π.answer u p t) ≡ true) × ((v : ℕ) → m ≤ v → v < t → is_yes (π.answer u p v) ≡ false))
  unfolding next_use
  next-at t = from_at m E (λ v. is_yes (π.answer u p v)) t

  -- none is given exactly when there is no such minute
  pub next-none : (next_use π u p m ≡ None) ↔ ((v : ℕ) → m ≤ v → v < E → is_yes (π.answer u p v) ≡ false)
  unfolding next_use
  next-none = from-none m E (λ v. is_yes (π.answer u p v))

module _ (j : ℕ) (π : Policy) (u p m n : ℕ) where
  -- the bytes are refused
  pub bytes-refused : j ≡ n → (j ≡ 0 → ⊥) → refused n ≡ next_use_question j π u p m
  unfolding next_use_question
  bytes-refused e h = bytes-stop _ _ _ _ e h

  -- a number of the question is refused, or none is
  pub numbers-refused : j ≡ 0 → n ≡ arguments_judged π.users π.permissions u p m → (n ≡ 0 → ⊥) → refused n ≡ next_use_question j π u p m
  unfolding next_use_question
  numbers-refused z e h = numbers-stop _ _ _ _ z e h

  pub next-given : j ≡ 0 → n ≡ arguments_judged π.users π.permissions u p m → n ≡ 0 → given (next_use π u p m) ≡ next_use_question j π u p m
  unfolding next_use_question
  next-given z e h = answered _ _ _ _ z e h

-- two policies with the same counts that agree on every question below them
module _ (users permissions : ℕ) (f g : ℕ → ℕ → ℕ → Option ℕ)
    (same : (u p t : ℕ) → u < users → p < permissions → t < E → f u p t ≡ g u p t) (u p m : ℕ) where
  abbrev pub K : Policy
  K = record { users = users; permissions = permissions; answer = f }

  abbrev pub L : Policy
  L = record { users = users; permissions = permissions; answer = g }

  same-use : u < users → p < permissions → next_use K u p m ≡ next_use L u p m
  unfolding next_use
  same-use hu hp = lowest-same E _ _ (λ t l. ap (λ (o : Option ℕ). leb m t && is_yes o) (same u p t hu hp l))

  pub same_next : next_use_question 0 K u p m ≡ next_use_question 0 L u p m
  same_next = go (arguments_judged users permissions u p m) refl
    where
      go : (j : ℕ) → j ≡ arguments_judged users permissions u p m → next_use_question 0 K u p m ≡ next_use_question 0 L u p m
      go zero e =
          let b = numbers-below users permissions u p m 0 e refl in
          sym (next-given 0 K u p m 0 refl e refl) ∙ ap given (same-use b.0 b.1) ∙ next-given 0 L u p m 0 refl e refl
      go (suc j) e =
          sym (numbers-refused 0 K u p m (suc j) refl e (λ (z : suc j ≡ 0). omega arith))
          ∙ numbers-refused 0 L u p m (suc j) refl e (λ (z : suc j ≡ 0). omega arith)
