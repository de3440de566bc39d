use Rattle.machine.specs.Believed.Machine.{open_judged}
use Rattle.ground.proofs.JudgementLaws.{tests}
use Rattle.ground.specs.Believed.Judgement.{refuse, ◌or_else◌}
use Rattle.machine.proofs.judge_open.Goals as goal

pub returns-then-users-u : goal.returns-then-users-u
unfolding open_judged refuse ◌or_else◌
returns-then-users-u c = search (tests)

pub returns-then-contains : goal.returns-then-contains
unfolding open_judged refuse ◌or_else◌
returns-then-contains c = search (tests, ← c.contains.ensures, c.if-contains.true)

pub returns-then-not-contains : goal.returns-then-not-contains
unfolding open_judged refuse ◌or_else◌
returns-then-not-contains c = search (tests, ← c.contains.ensures, ← c.contains-2.ensures, c.if-contains.false, c.if-not-contains.true)

pub returns : goal.returns
unfolding open_judged refuse ◌or_else◌
returns c = search (tests, ← c.contains.ensures, ← c.contains-2.ensures, c.if-contains.false, c.if-not-contains.false)
