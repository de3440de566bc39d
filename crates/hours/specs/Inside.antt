-- What the steps inside promise each other and the crates above, which no reader has to believe.
use Rattle.std.specs.Prelude.{ℕ, ◌+◌, ◌≤◌, Bool, true, List, ◌≡◌, length, Result, IfOk}
use Rattle.ground.specs.Believed.Judgement.{in_turn}
use Rattle.ground.specs.Believed.Search.{any}
use Rattle.bitset.specs.Believed.Sets.{has, set_of}
use Rattle.minutes.specs.Believed.Minutes.{within}
use Rattle.refusal.specs.Believed.Ends.{judgement_of}
use Rattle.refusal.specs.declared.Refusal.{Refusal}
use Rattle.hours.specs.Believed.Hours.{Pair, Hours, holds}
use Rattle.hours.specs.Believed.HoursBytes.{record_at, hours_at}
use Rattle.hours.specs.Believed.HoursRefusals.{record_judged}
use Rattle.hours.specs.declared.HoursRef.{HoursRef}
use Rattle.hours.specs.declared.HoursRef.TheVariants.{Always, Numbered}

-- what a walk over h records from `from` on leaves: the first refusal, and where there is none, where the records end
pub record RecordsRead (s : List ℕ) (c from h : ℕ) (r : Result ℕ Refusal) : Type 0 where
  pub judged : judgement_of r ≡ in_turn (record_judged s c from) h
  pub ends : IfOk r (λ at. at ≡ record_at s from h)
  pub within : IfOk r (λ at. at ≤ length s)

-- a record by its two parts: its dates at minute t, and its pairs at phase x
unfoldable pub dates_hold : ℕ → Hours → Bool
dates_hold t h = within h.begin h.end t

unfoldable pub pairs_hold : ℕ → Hours → Bool
pairs_hold x h = any (λ (p : Pair). within p.offset (p.offset + p.length) x) h.pairs

-- of the first h records from `from` on, the numbers of those that meet a test, and of those that hold at t
unfoldable pub records_that : List ℕ → ℕ → ℕ → (Hours → Bool) → ℕ
records_that s from h f = set_of h (λ k. f (hours_at s (record_at s from k)))

unfoldable pub holding : List ℕ → ℕ → ℕ → ℕ → ℕ → ℕ
holding s c from h t = records_that s from h (λ r. holds c r t)

-- a reference holds by the set of the records that hold
unfoldable pub ref_in : ℕ → HoursRef → Bool
ref_in x Always = true
ref_in x (Numbered k) = has x k
