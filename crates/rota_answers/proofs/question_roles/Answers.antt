-- The roles are those enabled, the user's and the permission's.
use Rattle.rota_answers.specs.Gathered.{question_roles}
use Rattle.rota_answers.proofs.question_roles.Goals as goal

pub returns : goal.returns
unfolding question_roles
returns c = cc
