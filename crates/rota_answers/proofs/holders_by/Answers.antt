-- Enabled roles that have a permission give their users.
use Rattle.rota_answers.specs.Gathered.{holders_by}
use Rattle.rota_answers.proofs.holders_by.Goals as goal

pub returns : goal.returns
unfolding holders_by
returns c = cc
