use mathlib.Core.Path.{sym}
use Rattle.rota.proofs.HeaderLaws.{header-length}
use Rattle.rota.proofs.header_length.Goals as goal

pub returns : goal.returns
returns c = sym (header-length _)
