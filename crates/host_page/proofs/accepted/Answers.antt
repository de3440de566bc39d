use Rattle.std.proofs.Common.{refl}
use Rattle.host_page.proofs.accepted.Goals as goal

-- stated, so that an edit of the count fails on it
pub returns : goal.returns
returns c = (refl, refl, refl, refl, refl)
