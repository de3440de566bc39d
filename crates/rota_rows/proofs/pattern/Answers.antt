use Rattle.std.proofs.Common.{refl}
use Rattle.std.proofs.Math.ListN.{get_or-replicate}
use Rattle.rota_rows.proofs.ScanLaws.{blank}
use Rattle.rota_rows.proofs.pattern.Goals as goal

pub loop-i-init : goal.loop-i-init
loop-i-init c = blank _ _ _ _ refl (λ j m. get_or-replicate 48 j _ 0 m)
