-- Each test of the code is the next rule of the header, in order.
use Rattle.std.proofs.Common.{rules}
use Rattle.ground.specs.Believed.Judgement.{refuse, ◌or_else◌}
use Rattle.ground.specs.Believed.Outcome.{outcome}
use Rattle.table.specs.Inside.{header_outcome}
use Rattle.table.specs.Believed.Answers.{counts_of}
use Rattle.table.specs.Believed.TableRefusals.{header_judged}
use Rattle.table.proofs.read_header.Goals as goal

pub returns-then-s-lt16 : goal.returns-then-s-lt16
unfolding header_outcome outcome header_judged refuse ◌or_else◌ counts_of
returns-then-s-lt16 c = search rules

pub returns-then-read16-ne2 : goal.returns-then-read16-ne2
unfolding header_outcome outcome header_judged refuse ◌or_else◌ counts_of
returns-then-read16-ne2 c = search rules

pub returns-then-n-eq0 : goal.returns-then-n-eq0
unfolding header_outcome outcome header_judged refuse ◌or_else◌ counts_of
returns-then-n-eq0 c = search rules

pub returns-then-n-gt64 : goal.returns-then-n-gt64
unfolding header_outcome outcome header_judged refuse ◌or_else◌ counts_of
returns-then-n-gt64 c = search rules

pub returns-then-s-n : goal.returns-then-s-n
unfolding header_outcome outcome header_judged refuse ◌or_else◌ counts_of
returns-then-s-n c = search rules

pub returns : goal.returns
unfolding header_outcome outcome header_judged refuse ◌or_else◌ counts_of
returns c = search rules
