-- Row by row: its number out of range, then its place.
use Rattle.std.proofs.Common.{◌≡◌, ◌≤◌}
use Rattle.ground.specs.Believed.Judgement.{in_turn}
use Rattle.refusal.specs.Believed.Numbers.{number}
use Rattle.rota.specs.Believed.RotaBytes.{row_at}
use Rattle.rota.specs.Believed.Order.{least}
use Rattle.rota.specs.Believed.RotaRefusals.{row_judged}
use Rattle.rota.proofs.judge_each.Given as goal

abbrev pub invariant-loop-k : goal.invariant-loop-k
invariant-loop-k l =
    record {
      most : l.above ≤ 16777216;
      next : l.above ≡ least (row_at l.s l.rows.at) l.k;
      clear : in_turn (row_judged (number l.rows.refusal) l.rows.top l.s l.rows.at) l.k ≡ 0;
    }
