-- The board against single questions as they are asked, with their refusals.
--     board-questions     on an accepted table a set has just the permissions for which the single question says yes
-- Assumes nothing.
use Prim.Native.Nat.{ℕ, ◌≤◌, ◌<◌}
use mathlib.Core.Path.{◌≡◌, refl, ◌∙◌, ap}
use mathlib.Core.Bool.{Bool, false, ◌&&◌}
use mathlib.Core.Logic.{⊎_elim}
use mathlib.Core.List.{List}
use native.Mathlib.Omega.{arith}
use lib.Dec.{ltb}
use lib.ListN.{get_or}
use borrow.Author.Tests.{lt-ltb, le-ltb, le-leb, lt-leb}
use Rattle.ground.specs.Believed.Choice.{pick}
use Rattle.ground.specs.Believed.Judgement.{◌or_else◌}
use Rattle.ground.proofs.BoolLaws.{lt-or-le}
use Rattle.ground.proofs.JudgementLaws.{refuse-yes, refuse-none}
use Rattle.ground.proofs.SequenceLaws.{get-list_of}
use Rattle.bitset.specs.Believed.Sets.{has}
use Rattle.bitset.proofs.SetLaws.{has-none, has-set_of}
use Rattle.minutes.specs.Believed.Minutes.{E}
use Rattle.policy.specs.Believed.Policy.{Policy, is_yes, arguments_judged, question}
use Rattle.policy.proofs.QuestionOutcome.{numbers-refused, question-given}
use Rattle.table.specs.Believed.Table.{policy_of}
use Rattle.table.specs.Believed.TableBytes.{table_of}
use Rattle.table.specs.Believed.TableRefusals.{table_judged}
use Rattle.table.proofs.FineLaws.{table-fine}
use Rattle.table_board.specs.Believed.Board.{says_yes, permissions_at, board_of}
use Rattle.table_board.proofs.BoardLaws.{board-none}

-- whatever answers, with users that a board has room for
module _ (π : Policy) (few : π.users ≤ 64) (j : ℕ) (z : j ≡ 0) (t : ℕ) (l : t < E) (u p : ℕ) where
  abbrev own : ℕ
  own = get_or (board_of π t) u 0

  own_is : u < π.users → has own p ≡ (ltb p π.permissions && is_yes (π.answer u p t))
  unfolding board_of permissions_at
  own_is m =
      ap (λ (x : ℕ). has x p) (get-list_of 64 _ 0 u (omega arith) ∙ ap (λ (b : Bool). pick b (permissions_at π t u) 0) (lt-ltb u π.users m))
      ∙ has-set_of π.permissions _ p

  -- no such user, no such permission, or neither
  stopped : (n : ℕ) → n ≡ arguments_judged π.users π.permissions u p t → (n ≡ 0 → ⊥) → false ≡ says_yes (question j π u p t)
  stopped n e h = ap says_yes (numbers-refused j π t u p n z e h)

  no-user : π.users ≤ u → has own p ≡ says_yes (question j π u p t)
  unfolding arguments_judged ◌or_else◌
  no-user m =
      ap (λ (x : ℕ). has x p) (board-none π t u m) ∙ has-none p
      ∙ stopped 34 (rw (refuse-none 33 _ (lt-leb E t l), refuse-yes 34 _ (le-leb π.users u m)) refl) (λ h. absurd (omega arith))

  no-permission : u < π.users → π.permissions ≤ p → has own p ≡ says_yes (question j π u p t)
  unfolding arguments_judged ◌or_else◌
  no-permission m k =
      own_is m ∙ ap (λ (b : Bool). b && is_yes (π.answer u p t)) (le-ltb p π.permissions k)
      ∙ stopped 35 (rw (refuse-none 33 _ (lt-leb E t l), refuse-none 34 _ (lt-leb π.users u m), refuse-yes 35 _ (le-leb π.permissions p k)) refl) (λ h. absurd (omega arith))

  both : u < π.users → p < π.permissions → has own p ≡ says_yes (question j π u p t)
  unfolding arguments_judged ◌or_else◌
  both m k =
      own_is m ∙ ap (λ (b : Bool). b && is_yes (π.answer u p t)) (lt-ltb p π.permissions k)
      ∙ ap says_yes (question-given j π t u p 0 z (rw (refuse-none 33 _ (lt-leb E t l), refuse-none 34 _ (lt-leb π.users u m), refuse-none 35 _ (lt-leb π.permissions p k)) refl) refl)

  pub board-question : has own p ≡ says_yes (question j π u p t)
  board-question = ⊎_elim (λ (m : u < π.users). ⊎_elim (both m) (no-permission m) (lt-or-le p π.permissions)) no-user (lt-or-le u π.users)

pub board-questions : (s : List ℕ) → table_judged s ≡ 0 → (t : ℕ) → t < E → (u p : ℕ)
    → has (get_or (board_of (policy_of (table_of s)) t) u 0) p ≡ says_yes (question (table_judged s) (policy_of (table_of s)) u p t)
unfolding table_of
board-questions s a t l u p = board-question (policy_of (table_of s)) (table-fine s a).header.users-most (table_judged s) a t l u p
