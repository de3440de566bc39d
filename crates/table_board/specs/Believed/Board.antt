-- The staff board (document 02, item 5): for one minute the permissions of every user, and how many rows enable their derived role then.
use Rattle.std.specs.Prelude.{ℕ, Bool, false, List, ltb, leb, replicate, Option}
use Rattle.ground.specs.Believed.Choice.{pick}
use Rattle.ground.specs.Believed.Judgement.{refuse, ◌or_else◌}
use Rattle.ground.specs.Believed.Outcome.{Outcome, refused, given, outcome}
use Rattle.ground.specs.Believed.Search.{count_of}
use Rattle.ground.specs.Believed.Sequence.{list_of}
use Rattle.bitset.specs.Believed.Sets.{set_of}
use Rattle.minutes.specs.Believed.Minutes.{E, covers}
use Rattle.policy.specs.Believed.Policy.{Policy, is_yes}
use Rattle.table.specs.Believed.Table.{Row, Table, policy_of}
use Rattle.table.specs.Believed.TableBytes.{table_of}
use Rattle.table.specs.Believed.TableRefusals.{table_judged}
use Rattle.table_board.specs.declared.Board.{Board}

-- the permissions that user u may use at t: those for which the single question says yes
unfoldable pub permissions_at : Policy → ℕ → ℕ → ℕ
permissions_at π t u = set_of π.permissions (λ p. is_yes (π.answer u p t))

-- a single question is answered, and with yes
abbrev pub says_yes : Outcome (Option ℕ) → Bool
says_yes (given o) = is_yes o
says_yes (refused n) = false

-- 64 sets, one for each user number; those of no user are empty
unfoldable pub board_of : Policy → ℕ → List ℕ
board_of π t = list_of 64 (λ u. pick (ltb u π.users) (permissions_at π t u) 0)

-- how many rows enable their derived role at t
unfoldable pub rows_at : Table → ℕ → ℕ
rows_at τ t = count_of (λ (w : Row). covers τ.cycle w.window t) τ.rows

pub record Shown : Type 0 where
  pub rows : ℕ
  pub permissions : List ℕ

-- the board of a table at t
abbrev pub shown_at : Table → ℕ → Shown
shown_at τ t = record { rows = rows_at τ t; permissions = board_of (policy_of τ) t }

-- the table's refusal, then 33, then the board
unfoldable pub board_outcome : List ℕ → ℕ → Outcome Shown
board_outcome s t = outcome (table_judged s or_else refuse 33 (leb E t)) (shown_at (table_of s) t)

-- as a struct: where refused, all else is 0
abbrev pub board_told : Outcome Shown → Board
board_told (given b) = record { refusal = 0; rows = b.rows; rights = b.permissions }
board_told (refused n) = record { refusal = n; rows = 0; rights = replicate 64 0 }
