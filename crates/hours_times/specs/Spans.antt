-- What the steps promise each other and the crates above, which no reader has to believe: how far a record that holds at a minute goes on holding, and
-- how far it does so again with the cycle.
use Rattle.std.specs.Prelude.{ℕ, ◌+◌, ◌*◌, ◌≤◌, ◌<◌, ◌≡◌, Bool, true, List, length}
use Rattle.bitset.specs.Believed.Sets.{has}
use Rattle.minutes.specs.Believed.Minutes.{E}
use Rattle.minutes.specs.Lasting.{Lasting}
use Rattle.hours.specs.Believed.Hours.{Hours, holds}
use Rattle.hours.specs.Believed.HoursBytes.{offset_at, length_at, pairs_at, hours_at}
use Rattle.hours.specs.HoursWell.{HoursWell}
use Rattle.hours.specs.Inside.{pairs_hold, holding}

-- the record at `at` lies within the bytes, and is one that document 01 admits
pub record RecordReady (s : List ℕ) (c at : ℕ) : Type 0 where
  pub within : at + 10 + 4 * pairs_at s at ≤ length s
  pub well : HoursWell c (hours_at s at)

-- of the n pairs of the record at `at`, those before pair j end by phase x, and pair j, where there is one, after it
pub record FirstEnding (s : List ℕ) (at x n j : ℕ) : Type 0 where
  pub below : j ≤ n
  pub behind : (i : ℕ) → i < j → offset_at s (at + 10) i + length_at s (at + 10) i ≤ x
  pub ends : j < n → x < offset_at s (at + 10) j + length_at s (at + 10) j

-- `on` says whether phase x is in a pair of h, and each phase from x to before `stop` says the same
pub record PhaseSpan (c : ℕ) (h : Hours) (x : ℕ) (on : Bool) (stop : ℕ) : Type 0 where
  pub after : x < stop
  pub in-cycle : stop ≤ c
  pub is : (y : ℕ) → x ≤ y → y < stop → on ≡ pairs_hold y h

-- `on` says whether h holds at t; where it does, it holds to before `until`, and, by the cycle of c minutes, to before `era`
pub record RecordSpan (c : ℕ) (h : Hours) (t : ℕ) (on : Bool) (until era : ℕ) : Type 0 where
  pub is : on ≡ holds c h t
  pub lasts : on ≡ true → Lasting (holds c h) c t until era
  pub after : t < until
  pub longer : t < era
  pub era-most : era ≤ E

-- each of the records in `only` that holds at t does so to before `until`, and, by the cycle of c minutes, to before `era`
pub record RecordsSpan (s : List ℕ) (c from h t only until era : ℕ) : Type 0 where
  pub lasts : (k : ℕ) → k < h → has only k ≡ true → has (holding s c from h t) k ≡ true → Lasting (λ v. has (holding s c from h v) k) c t until era
  pub after : t < until
  pub longer : t < era
  pub era-most : era ≤ E
