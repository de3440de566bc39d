-- Document 01's small rota S, tidied: its rows are in order already, so that it is S with 3 as its first byte.
-- Assumes nothing.
use mathlib.Core.Path.{◌≡◌, refl, ap, ◌∙◌}
use lib.ListN.{length, set}
use Rattle.ground.specs.Believed.Sequence.{list_of, joined}
use Rattle.endian.specs.Believed.Numbers.{u16_at, u32_at, bytes16, bytes32}
use Rattle.hours.specs.Believed.Hours.{ref_of, ref_byte}
use Rattle.hours.specs.Believed.HoursBytes.{record_at, pairs_before, hours_from, pair_bytes, hours_bytes}
use Rattle.rota.specs.Believed.RotaBytes.{header_length, header_bytes, ref_bytes, row_bytes, rota_bytes, rota_of}
use Rattle.rota.specs.Worked.{small}
use Rattle.rota.proofs.RotaTheorems.{accepted-well}
use Rattle.rota.proofs.Worked.{worked-order}
use Rattle.tidy_rules.specs.Believed.Tidy.{tidy, tidy_bytes}
use Rattle.tidy_rules.proofs.RotaLaws.{tidy_one, tidy-stays}

-- opens every definition that the example computes through
unfoldable opened : Unit {0}
unfolding list_of joined u16_at u32_at bytes16 bytes32 ref_of ref_byte record_at pairs_before hours_from pair_bytes hours_bytes header_length header_bytes ref_bytes row_bytes rota_bytes rota_of
opened = tt

one-rota : tidy (rota_of small) ≡ tidy (rota_of (set small 0 3))
unfolding opened
one-rota = tidy_one (rota_of small) (rota_of (set small 0 3)) refl refl refl refl refl (λ k. refl) (λ k. refl)

tidy-already : tidy (rota_of (set small 0 3)) ≡ rota_of (set small 0 3)
unfolding opened
tidy-already = tidy-stays (rota_of (set small 0 3)) (accepted-well (set small 0 3) worked-order.1) refl

spelt : rota_bytes (rota_of (set small 0 3)) ≡ set small 0 3
unfolding opened
spelt = refl

pub small-tidied : (tidy_bytes small ≡ set small 0 3) × (length (tidy_bytes small) ≡ 54)
unfolding tidy_bytes
small-tidied =
    let e : rota_bytes (tidy (rota_of small)) ≡ set small 0 3 = ap rota_bytes (one-rota ∙ tidy-already) ∙ spelt in
    (e, ap length e)
