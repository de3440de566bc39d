-- The entries so far are not refused, and the source before is the last one's.
use Rattle.std.proofs.Common.{arith}
use Rattle.ground.proofs.JudgementLaws.{turns-none}
use Rattle.table.proofs.EntryLaws.{entry-bad, entry-good, source-none, source_more}
use Rattle.table.proofs.HeaderLaws.{laid}
use Rattle.table_reader.proofs.judge_entries.Goals as goal

pub loop-d-init : goal.loop-d-init
loop-d-init c = (turns-none _, source-none _)

pub read8-source-requires : goal.read8-source-requires
read8-source-requires c = omega (arith, (laid _ _ c.requires).whole)

pub entry_refused-requires : goal.entry_refused-requires
entry_refused-requires c = let f = laid _ _ c.requires in (omega arith, c.read8-source.ensures.0, f.users-most, f.permissions-most)

pub returns-then-entry_refused : goal.returns-then-entry_refused
returns-then-entry_refused c =
    entry-bad _ _ _ _ _ c.requires.counts c.loop-d.invariant.1 c.entry_refused.ensures c.if-entry_refused.true _ c.loop-d-test.true
    c.loop-d.invariant.0

pub loop-d-preserved : goal.loop-d-preserved
loop-d-preserved c = (
  entry-good _ _ _ _ _ c.requires.counts c.loop-d.invariant.1 c.entry_refused.ensures c.if-entry_refused.false c.loop-d.invariant.0,
  source_more _ _ _ c.read8-source.ensures.0,
)
