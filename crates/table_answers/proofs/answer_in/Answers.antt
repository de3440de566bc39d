-- No row so far grants; rows go by source role, so the first that does has the lowest.
use Rattle.std.proofs.Common.{rules, ◌≡◌, arith, sym, ◌∙◌}
use Rattle.ground.proofs.SearchLaws.{any_none, any-more}
use Rattle.table.proofs.HeaderLaws.{laid}
use Rattle.table.proofs.OpenedLaws.{opened-header}
use Rattle.table_answers.proofs.AnswerLaws.{first-grants, none-grants}
use Rattle.table_answers.proofs.answer_in.Goals as goal

pub returns-then-rows-eq0 : goal.returns-then-rows-eq0
returns-then-rows-eq0 c =
    let e : 0 ≡ c.args.table.now.counts.rows = omega (arith, c.if-rows-eq0.true, c.rows.ensures) in
    none-grants _ _ c.args.table.now.opened c.args.u c.args.p c.args.t (rw (← e) (any_none _))

pub loop-k-init : goal.loop-k-init
loop-k-init c = any_none _

pub row_grants-requires : goal.row_grants-requires
row_grants-requires c =
    let f = laid _ _ (opened-header _ _ c.args.table.now.opened) in
    rw c.at-moment.ensures.1 (omega (arith, c.loop-k-test.true, c.rows-k-end.ensures), omega (arith, c.requires.0, f.users-most), omega (arith, c.requires.1, f.permissions-most))

pub returns-then-row_grants : goal.returns-then-row_grants
returns-then-row_grants c =
    search (
      rules,
      first-grants _ _ c.args.table.now.opened _ _ _ _ (omega (arith, c.loop-k-test.true, c.rows-k-end.ensures)) c.loop-k.invariant
          (sym (rw (c.at-moment.ensures.0, c.at-moment.ensures.1) at c.row_grants.ensures) ∙ c.if-row_grants.true),
    )

pub loop-k-preserved : goal.loop-k-preserved
loop-k-preserved c = any-more _ _ c.loop-k.invariant (sym (rw (c.at-moment.ensures.0, c.at-moment.ensures.1) at c.row_grants.ensures) ∙ c.if-row_grants.false)

pub returns : goal.returns
returns c =
    let e : c.loop-k.k ≡ c.args.table.now.counts.rows = omega (arith, c.loop-k.auto.k-end, c.loop-k-test.false, c.rows-k-end.ensures) in
    none-grants _ _ c.args.table.now.opened _ _ _ (rw (← e) c.loop-k.invariant)
