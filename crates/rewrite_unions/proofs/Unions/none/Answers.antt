use Rattle.rewrite_unions.proofs.TableLaws.{ready-none}
use Rattle.rewrite_unions.proofs.Unions.none.Goals as goal

pub invariant_of-result : goal.invariant_of-result
invariant_of-result c = ready-none _
