use Rattle.policy.specs.Believed.Policy.{arguments_judged}
use Rattle.minutes.specs.Believed.Minutes.{E}
use Rattle.ground.proofs.JudgementLaws.{tests}
use Rattle.ground.specs.Believed.Judgement.{refuse, ◌or_else◌}
use Rattle.policy.proofs.judge_arguments.Goals as goal

pub returns-then-t-ge-END : goal.returns-then-t-ge-END
unfolding arguments_judged refuse ◌or_else◌ E
returns-then-t-ge-END c = search (tests)

pub returns-then-users-u : goal.returns-then-users-u
unfolding arguments_judged refuse ◌or_else◌ E
returns-then-users-u c = search (tests)

pub returns-then-permissions-p : goal.returns-then-permissions-p
unfolding arguments_judged refuse ◌or_else◌ E
returns-then-permissions-p c = search (tests)

pub returns : goal.returns
unfolding arguments_judged refuse ◌or_else◌ E
returns c = search (tests)
