-- Document 01's small rota S is accepted; its worked minutes, and limits of its bytes, by computing.
-- Assumes nothing.
use mathlib.Core.Path.{◌≡◌, refl}
use lib.ListN.{length, set, take}
use Rattle.ground.specs.Believed.Judgement.{refuse, ◌or_else◌, in_turn}
use Rattle.ground.specs.Believed.Search.{any, any_below, first_there, lowest_below}
use Rattle.ground.specs.Believed.Sequence.{list_of}
use Rattle.endian.specs.Believed.Numbers.{u16_at, u32_at}
use Rattle.minutes.specs.Believed.Minutes.{E, in_phase}
use Rattle.hours.specs.Believed.Hours.{holds, ref_holds, ref_of, ref_byte, dangling}
use Rattle.hours.specs.Believed.HoursBytes.{record_at, pairs_before, hours_from}
use Rattle.hours.specs.Believed.HoursRefusals.{earliest, pair_judged, hours_judged, record_judged}
use Rattle.rota.specs.Believed.Rota.{enabled, assigned, has_user, has_permission, through, answer}
use Rattle.rota.specs.Believed.RotaBytes.{header_length, rota_of}
use Rattle.rota.specs.Believed.Order.{key_of, least}
use Rattle.rota.specs.Worked.{small, WorkedMinutes}
use Rattle.rota.specs.Believed.RotaRefusals.{counts_over, format_read, header_judged, role_judged, row_bad, row_falls, row_judged, rota_judged}

-- opens every definition that an example computes through
unfoldable opened : Unit {0}
unfolding E in_phase any any_below first_there lowest_below list_of u16_at u32_at holds ref_holds ref_of dangling record_at pairs_before hours_from earliest pair_judged hours_judged record_judged refuse ◌or_else◌ in_turn enabled assigned has_user has_permission through answer header_length rota_of key_of least ref_byte counts_over format_read header_judged role_judged row_bad row_falls row_judged rota_judged
opened = tt

pub small-accepted : (length small ≡ 54) × (rota_judged small ≡ 0)
unfolding opened
small-accepted = (refl, refl)

pub worked-minutes : WorkedMinutes
unfolding opened
worked-minutes =
    record { at-3 = refl; at-4 = (refl, refl); at-12 = refl; at-12-too = refl; at-36 = refl; at-37 = (refl, refl); at-40 = (refl, refl) }

-- C 0 and 40,321 give 3; a pair that touches the one before gives 8; a byte less gives 9
pub worked-limits : (rota_judged (set small 2 0) ≡ 3) × (rota_judged (set (set small 2 129) 3 157) ≡ 3) × (rota_judged (set small 26 4) ≡ 8) × (rota_judged (take 53 small) ≡ 9)
unfolding opened
worked-limits = (refl, refl, refl, refl)

-- format 2 gives 2; in format 3 S passes, and a row twice gives 52, which passes in format 1; a row that is out of range and out of order too gives 11
pub worked-order : (rota_judged (set small 0 2) ≡ 2) × (rota_judged (set small 0 3) ≡ 0) × (rota_judged (set (set (set small 0 3) 48 0) 50 0) ≡ 52)
    × (rota_judged (set (set small 48 0) 50 0) ≡ 0) × (rota_judged (set (set (set (set small 0 3) 45 1) 48 0) 50 9) ≡ 11)
unfolding opened
worked-order = (refl, refl, refl, refl, refl)
