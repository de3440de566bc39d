use mathlib.Core.Path.{refl}
use Rattle.softlode.proofs.softlode_version.Goals as goal

pub returns : goal.returns
returns c = refl
