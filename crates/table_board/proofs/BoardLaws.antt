-- The board against single questions.
--     board-single     on an accepted table a set has just the permissions to which the single question says yes, whatever the minute and the numbers
--     board-none       the set of a number that no user has is empty
--     board-rows       on an accepted table the rows at a minute are no more than the roles
-- Assumes nothing.
use Prim.Native.Nat.{ℕ, ◌≤◌, ◌<◌}
use mathlib.Core.Path.{◌≡◌, sym, ◌∙◌, ap}
use mathlib.Core.Logic.{⊎_elim}
use mathlib.Core.List.{List}
use native.Mathlib.Omega.{arith}
use lib.ListN.{get_or, get_or-eq_default}
use borrow.Author.Tests.{le-ltb}
use Rattle.ground.specs.Believed.Search.{any_below}
use Rattle.ground.proofs.BoolLaws.{lt-or-le, pick-false}
use Rattle.ground.proofs.SearchLaws.{count_most}
use Rattle.ground.proofs.SequenceLaws.{list_of-length, get-list_of}
use Rattle.bitset.specs.Believed.Sets.{has}
use Rattle.bitset.proofs.SetLaws.{has-none}
use Rattle.policy.specs.Believed.Policy.{Policy, is_yes}
use Rattle.table.specs.Believed.Table.{answer, policy_of}
use Rattle.table.specs.Believed.TableBytes.{users_of, rows_of, table_of}
use Rattle.table.specs.Believed.TableRefusals.{table_judged}
use Rattle.table.proofs.FineLaws.{table-fine}
use Rattle.table_answers.specs.Grants.{row_grants}
use Rattle.table_answers.proofs.AnswerLaws.{yes-grants}
use Rattle.table_board.specs.Believed.Board.{board_of, rows_at}
use Rattle.table_board.proofs.RowLaws.{past-users, shown-has, count-roles}

pub board-none : (π : Policy) (t u : ℕ) → π.users ≤ u → get_or (board_of π t) u 0 ≡ 0
unfolding board_of
board-none π t u m =
    ⊎_elim
    (λ (l : u < 64). get-list_of 64 _ 0 u l ∙ pick-false _ _ _ (le-ltb u π.users m))
    (λ (l : 64 ≤ u). get_or-eq_default (board_of π t) 0 {n = u} (rw list_of-length l))
    (lt-or-le u 64)

module _ (s : List ℕ) (a : table_judged s ≡ 0) (t : ℕ) where
  below_64 : (u p : ℕ) → u < 64 → has (get_or (board_of (policy_of (table_of s)) t) u 0) p ≡ any_below (rows_of s) (row_grants s u p t)
  unfolding board_of table_of
  below_64 u p l = ap (λ (x : ℕ). has x p) (get-list_of 64 _ 0 u l) ∙ shown-has s (table-fine s a) t u p

  from-64 : (u p : ℕ) → 64 ≤ u → has (get_or (board_of (policy_of (table_of s)) t) u 0) p ≡ any_below (rows_of s) (row_grants s u p t)
  unfolding table_of
  from-64 u p l =
      let m : users_of s ≤ u = omega (arith, (table-fine s a).header.users-most) in
      ap (λ (x : ℕ). has x p) (board-none (policy_of (table_of s)) t u m) ∙ has-none p ∙ sym (past-users s (table-fine s a) t u p m)

  pub board-single : (u p : ℕ) → has (get_or (board_of (policy_of (table_of s)) t) u 0) p ≡ is_yes (answer (table_of s) u p t)
  board-single u p = ⊎_elim (below_64 u p) (from-64 u p) (lt-or-le u 64) ∙ sym (yes-grants s (table-fine s a) u p t)

  pub board-rows : rows_at (table_of s) t ≤ (table_of s).roles
  unfolding table_of
  board-rows = rw (← (count-roles s a t)) (count_most _ _)
