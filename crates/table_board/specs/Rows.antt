-- What the steps inside promise each other, which no reader has to believe.
use Rattle.std.specs.Prelude.{ℕ, List, leb, get_or}
use Rattle.ground.specs.Believed.Choice.{pick}
use Rattle.ground.specs.Believed.Judgement.{refuse, ◌or_else◌}
use Rattle.ground.specs.Believed.Sequence.{list_of}
use Rattle.bitset.specs.Believed.Sets.{has, union}
use Rattle.minutes.specs.Believed.Minutes.{E}
use Rattle.table.specs.Believed.TableRefusals.{table_judged}
use Rattle.table_answers.specs.Grants.{owned}

-- 64 sets of permissions, with these permissions added to the sets of these users
unfoldable pub added : List ℕ → ℕ → ℕ → List ℕ
added rights users permissions = list_of 64 (λ u. pick (has users u) (union (get_or rights u 0) permissions) (get_or rights u 0))

-- the same with the users and the permissions of the entry of row i
unfoldable pub added_row : List ℕ → List ℕ → ℕ → List ℕ
added_row rights s i = added rights (owned s i).users (owned s i).permissions

-- the table's refusal, then 33
unfoldable pub board_judged : List ℕ → ℕ → ℕ
board_judged s t = table_judged s or_else refuse 33 (leb E t)
