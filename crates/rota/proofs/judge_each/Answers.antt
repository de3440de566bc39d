-- Row by row: its number out of range, then its place.
use Rattle.std.proofs.Common.{sym, ◌∙◌, arith}
use Rattle.ground.proofs.JudgementLaws.{turns-none, turns_more, turns-refused}
use Rattle.refusal.proofs.RefusalLaws.{number-above}
use Rattle.rota.proofs.OrderLaws.{least-none, least-next}
use Rattle.rota.proofs.RowLaws.{row-out, row-falls, row-passes}
use Rattle.rota.proofs.judge_each.Goals as goal

pub loop-k-init : goal.loop-k-init
loop-k-init c = record { most = omega arith; next = least-none _; clear = turns-none _ }

pub returns-then-row_out : goal.returns-then-row_out
returns-then-row_out c =
    let p = c.requires in
    let some = number-above c.args.rows.refusal in
    sym (turns-refused _ _ _ _ some c.loop-k-test.true c.loop-k.invariant.clear
    (row-out _ _ p.0.hours _ _ _ _ (λ i. omega (arith, c.type_inv.s i)) p.0.roles-are p.1 _ some (sym c.row_out.ensures ∙ c.if-row_out.true)))

pub returns-then-key-above : goal.returns-then-key-above
returns-then-key-above c =
    let p = c.requires in
    let i = c.loop-k.invariant in
    sym (turns-refused _ _ _ 52 (omega arith) c.loop-k-test.true i.clear
    (row-falls _ _ p.0.hours _ _ _ _ (λ i. omega (arith, c.type_inv.s i)) p.0.roles-are p.1 _ _ _
    (sym c.row_out.ensures ∙ c.if-row_out.false) c.key_at-key.ensures.0 i.next c.if-key-above.true))

pub loop-k-preserved : goal.loop-k-preserved
loop-k-preserved c =
    let p = c.requires in
    let i = c.loop-k.invariant in
    record {
      most = omega (arith, c.key_at-key.ensures.1);
      next = least-next _ _ _ c.key_at-key.ensures.0;
      clear = turns_more _ _ i.clear
          (row-passes _ _ p.0.hours _ _ _ _ (λ i. omega (arith, c.type_inv.s i)) p.0.roles-are p.1 _ _ _
          (sym c.row_out.ensures ∙ c.if-row_out.false) c.key_at-key.ensures.0 i.next c.if-key-above.false);
    }
