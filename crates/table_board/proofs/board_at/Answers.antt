use Rattle.std.proofs.Common.{◌∙◌}
use Rattle.refusal.proofs.RefusalLaws.{number-some}
use Rattle.table_board.proofs.ToldLaws.{told-refused, told-board}
use Rattle.table_board.proofs.board_at.Goals as goal

pub returns-in-Ok : goal.returns-in-Ok
returns-in-Ok c = rw (← c.in-Ok.ensures.lent) (c.board_in.ensures ∙ told-board _ _ (rw (← c.in-Ok.ensures.lent) at c.in-Ok.ensures.judged))

pub returns-in-Err : goal.returns-in-Err
returns-in-Err c = rw c.from.ensures (told-refused _ _ _ c.in-Err.ensures.judged (number-some c.in-Err.r))
