-- What the board tells, by the stage at which it ends: the bytes are refused, the minute is too late, or neither.
--     judged-bytes, judged-late, judged-fine     the judgement
--     told-refused, told-board                   what is told by it
-- Assumes nothing.
use Rattle.std.proofs.Common.{◌≡◌, ℕ, ◌≤◌, ◌<◌, List, refl, sym, ap, ◌∙◌}
use borrow.Author.Tests.{le-leb, lt-leb}
use Rattle.ground.specs.Believed.Judgement.{◌or_else◌}
use Rattle.ground.specs.Believed.Outcome.{refused, given, outcome}
use Rattle.ground.proofs.JudgementLaws.{or_else-ne, refuse-yes, refuse-none}
use Rattle.ground.proofs.OutcomeLaws.{outcome-refused, outcome-given}
use Rattle.minutes.specs.Believed.Minutes.{E}
use Rattle.table.specs.Believed.TableBytes.{table_of}
use Rattle.table.specs.Believed.TableRefusals.{table_judged}
use Rattle.table_board.specs.Believed.Board.{shown_at, board_outcome, board_told}
use Rattle.table_board.specs.Rows.{board_judged}

module _ (s : List ℕ) (t : ℕ) where
  pub judged-bytes : (n : ℕ) → n ≡ table_judged s → (n ≡ 0 → ⊥) → n ≡ board_judged s t
  unfolding board_judged
  judged-bytes n e h = sym (rw (← e) (or_else-ne n _ h))

  module _ (z : table_judged s ≡ 0) where
    pub judged-late : E ≤ t → 33 ≡ board_judged s t
    unfolding board_judged ◌or_else◌
    judged-late l = rw z (sym (refuse-yes 33 _ (le-leb E t l)))

    pub judged-fine : t < E → 0 ≡ board_judged s t
    unfolding board_judged ◌or_else◌
    judged-fine l = rw z (sym (refuse-none 33 _ (lt-leb E t l)))

  pub told-refused : (n : ℕ) → n ≡ board_judged s t → (n ≡ 0 → ⊥) → board_told (refused n) ≡ board_told (board_outcome s t)
  unfolding board_outcome board_judged
  told-refused n e h = ap board_told (outcome-refused n (shown_at (table_of s) t) h ∙ ap (λ (j : ℕ). outcome j (shown_at (table_of s) t)) e)

  pub told-board : 0 ≡ board_judged s t → board_told (given (shown_at (table_of s) t)) ≡ board_told (board_outcome s t)
  unfolding board_outcome board_judged
  told-board e = ap board_told (outcome-given 0 (shown_at (table_of s) t) refl ∙ ap (λ (j : ℕ). outcome j (shown_at (table_of s) t)) e)
