-- A question's outcome, by the stage at which it ends.
--     bytes-stop, numbers-stop, answered              whatever is asked: the judgement of the bytes, that of the numbers, or the answer
--     bytes-refused, numbers-refused, question-given  of one question
--     minute-early, numbers-below                     the numbers of a question that are not refused
-- Assumes nothing.
use Prim.Native.Nat.{ℕ, ◌<◌}
use mathlib.Core.Path.{◌≡◌, refl, sym, ap, ◌∙◌}
use borrow.Author.Tests.{leb-false}
use Rattle.ground.specs.Believed.Judgement.{◌or_else◌}
use Rattle.ground.specs.Believed.Outcome.{refused, given, outcome}
use Rattle.ground.proofs.JudgementLaws.{or_else-ne, or_else-zero, refuse-no}
use Rattle.ground.proofs.OutcomeLaws.{outcome-refused, outcome-given}
use Rattle.minutes.specs.Believed.Minutes.{E}
use Rattle.policy.specs.Believed.Policy.{Policy, arguments_judged, question}

-- j is the judgement of the bytes, k that of the numbers, a the answer
module _ {ℓ} {A : Type ℓ} (j k : ℕ) (a : A) (n : ℕ) where
  pub bytes-stop : j ≡ n → (j ≡ 0 → ⊥) → refused n ≡ outcome (j or_else k) a
  bytes-stop e h = ap refused (sym e) ∙ outcome-refused j a h ∙ ap (λ (i : ℕ). outcome i a) (sym (or_else-ne j k h))

  pub numbers-stop : j ≡ 0 → n ≡ k → (n ≡ 0 → ⊥) → refused n ≡ outcome (j or_else k) a
  unfolding ◌or_else◌
  numbers-stop z e h = outcome-refused n a h ∙ rw (z, e) refl

  pub answered : j ≡ 0 → n ≡ k → n ≡ 0 → given a ≡ outcome (j or_else k) a
  unfolding ◌or_else◌
  answered z e h = outcome-given n a h ∙ rw (z, e) refl

module _ (j : ℕ) (π : Policy) (t : ℕ) where
  -- the bytes are refused
  pub bytes-refused : (u p n : ℕ) → j ≡ n → (j ≡ 0 → ⊥) → refused n ≡ question j π u p t
  unfolding question
  bytes-refused u p n e h = bytes-stop _ _ _ _ e h

  -- a number of the question is refused, or none is
  pub numbers-refused : (u p n : ℕ) → j ≡ 0 → n ≡ arguments_judged π.users π.permissions u p t → (n ≡ 0 → ⊥) → refused n ≡ question j π u p t
  unfolding question
  numbers-refused u p n z e h = numbers-stop _ _ _ _ z e h

  pub question-given : (u p n : ℕ) → j ≡ 0 → n ≡ arguments_judged π.users π.permissions u p t → n ≡ 0 → given (π.answer u p t) ≡ question j π u p t
  unfolding question
  question-given u p n z e h = answered _ _ _ _ z e h

  pub minute-early : (u p n : ℕ) → n ≡ arguments_judged π.users π.permissions u p t → n ≡ 0 → t < E
  unfolding arguments_judged
  minute-early u p n e h = leb-false _ _ (refuse-no 32 _ (or_else-zero _ _ (sym e ∙ h)).0)

-- the numbers of a question that are not refused
pub numbers-below : (users permissions u p t n : ℕ) → n ≡ arguments_judged users permissions u p t → n ≡ 0 → (u < users) × (p < permissions)
unfolding arguments_judged
numbers-below users permissions u p t n e h =
    let z = or_else-zero _ _ (or_else-zero _ _ (sym e ∙ h)).1 in
    (leb-false _ _ (refuse-no 33 _ z.0), leb-false _ _ (refuse-no 34 _ z.1))
