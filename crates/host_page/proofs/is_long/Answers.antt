use mathlib.Core.Path.{refl}
use Rattle.host_page.proofs.is_long.Goals as goal

-- stated, so that an edit of the limit fails on it
pub returns : goal.returns
returns c = refl
