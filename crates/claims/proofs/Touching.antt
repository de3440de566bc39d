-- Rows that touch become one (document 02, item 4): what is asked holds of every rota that is accepted.
-- Assumes nothing.
use Prim.Native.Nat.{ℕ}
use mathlib.Core.Path.{◌≡◌}
use mathlib.Core.List.{List}
use Rattle.rota.specs.Believed.RotaBytes.{rota_of}
use Rattle.rota.specs.Believed.RotaRefusals.{rota_judged}
use Rattle.rota.specs.RotaWell.{RotaWell}
use Rattle.rota.proofs.RotaTheorems.{accepted-well}
use Rattle.rewrite_rules.proofs.Joining.{joined_same, joined-none, joined-entries, joined-fewer}
use Rattle.rewrite_rules.proofs.TableRewritten.{rewritten-accepted, unjoined-accepted}
use Rattle.claims.specs.Believed.Touching.{Touching}

pub touching : (s : List ℕ) → rota_judged s ≡ 0 → Touching s
touching s a =
    let w : RotaWell (rota_of s) = accepted-well s a in
    record {
      same-enabled = joined_same (rota_of s);
      none_left = joined-none (rota_of s);
      same-derived = joined-entries (rota_of s);
      no-more-rows = joined-fewer (rota_of s);
      takes-joined = rewritten-accepted (rota_of s) w;
      takes-unjoined = unjoined-accepted (rota_of s) w;
    }
