-- Values in their ranges are spelled by bytes.
--     in-ref, in-records                     references, hours records
-- Assumes nothing.
use Prim.Native.Nat.{ℕ, ◌≤◌, ◌<◌, ◌+◌}
use mathlib.Core.Path.{◌≡◌}
use mathlib.Core.Bool.{false}
use mathlib.Core.List.{List, [], ◌∷◌}
use native.Mathlib.Omega.{arith}
use borrow.Author.Tests.{leb-false}
use lib.ListN.{length}
use Rattle.ground.specs.Believed.Sequence.{joined, All}
use Rattle.endian.specs.Believed.Numbers.{bytes8}
use Rattle.endian.proofs.ByteLaws.{AllBytes, no_bytes, ◌then◌, in8, in16, in32}
use Rattle.minutes.specs.Believed.Minutes.{E}
use Rattle.hours.specs.Believed.Hours.{Pair, Hours, ref_byte, dangling}
use Rattle.hours.specs.Believed.HoursBytes.{pair_bytes, hours_bytes}
use Rattle.hours.specs.HoursWell.{PairsWell, HoursWell, pairs_in}
use Rattle.hours.specs.declared.HoursRef.{HoursRef}
use Rattle.hours.specs.declared.HoursRef.TheVariants.{Always, Numbered}

pub in-ref : (h : ℕ) (r : HoursRef) → h ≤ 255 → dangling h r ≡ false → AllBytes (bytes8 (ref_byte r))
unfolding ref_byte dangling
in-ref h Always l d = in8 (omega arith)
in-ref h (Numbered k) l d = in8 (omega (arith, leb-false h k d))

module _ (c : ℕ) (short : c < 65536) where
  in_pairs : (low : ℕ) (ps : List Pair) → PairsWell c low ps → AllBytes (joined pair_bytes ps)
  unfolding joined pair_bytes
  in_pairs low [] w = no_bytes
  in_pairs low (p ∷ ps) w = (in16 (omega (arith, w.0.ends)) then in16 (omega (arith, w.0.ends))) then in_pairs (p.offset + p.length + 1) ps w.1

  in-record : (h : Hours) → length h.pairs < 65536 → HoursWell c h → AllBytes (hours_bytes h)
  unfolding hours_bytes E
  in-record h few w = in32 (omega (arith, w.ordered, w.ends)) then in32 (omega (arith, w.ends)) then in16 few then in_pairs 0 h.pairs w.pairs

  pub in-records : (hs : List Hours) → pairs_in hs ≤ 256 → All (HoursWell c) hs → AllBytes (joined hours_bytes hs)
  unfolding joined pairs_in
  in-records [] few w = no_bytes
  in-records (h ∷ hs) few w = in-record h (omega arith) w.0 then in-records hs (omega arith) w.1
