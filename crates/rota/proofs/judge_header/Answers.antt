use Rattle.rota.specs.Believed.RotaRefusals.{header_judged}
use Rattle.ground.proofs.JudgementLaws.{tests}
use Rattle.ground.specs.Believed.Judgement.{refuse, ◌or_else◌}
use Rattle.rota.proofs.judge_header.Goals as goal

pub returns-then-s-header_length : goal.returns-then-s-header_length
unfolding header_judged refuse ◌or_else◌
returns-then-s-header_length c = search (tests, ← c.header_length.ensures)

pub returns-then-not-is_read : goal.returns-then-not-is_read
unfolding header_judged refuse ◌or_else◌
returns-then-not-is_read c = search (tests, ← c.header_length.ensures, ← c.read16.ensures, ← c.is_read.ensures, c.if-not-is_read.true)

pub returns-then-cycle-eq0 : goal.returns-then-cycle-eq0
unfolding header_judged refuse ◌or_else◌
returns-then-cycle-eq0 c = search (tests, ← c.header_length.ensures, ← c.read16.ensures, ← c.is_read.ensures, ← c.read16-cycle.ensures, c.if-not-is_read.false)

pub returns-then-cycle-gt40320 : goal.returns-then-cycle-gt40320
unfolding header_judged refuse ◌or_else◌
returns-then-cycle-gt40320 c = search (tests, ← c.header_length.ensures, ← c.read16.ensures, ← c.is_read.ensures, ← c.read16-cycle.ensures, c.if-not-is_read.false)

pub returns-then-counts_over : goal.returns-then-counts_over
unfolding header_judged refuse ◌or_else◌
returns-then-counts_over c = search (tests, ← c.header_length.ensures, ← c.read16.ensures, ← c.is_read.ensures, ← c.read16-cycle.ensures, c.if-not-is_read.false, ← c.counts_over.ensures, c.if-counts_over.true)

pub returns : goal.returns
unfolding header_judged refuse ◌or_else◌
returns c = search (tests, ← c.header_length.ensures, ← c.read16.ensures, ← c.is_read.ensures, ← c.read16-cycle.ensures, c.if-not-is_read.false, ← c.counts_over.ensures, c.if-counts_over.false)
