-- Hours and when they hold (document 01, "Hours"; hours references, "The rota's bytes").
use Rattle.std.specs.Prelude.{ℕ, Bool, false, ◌&&◌, List, [], ltb, leb, eqb, get_or}
use Rattle.ground.specs.Believed.Choice.{pick}
use Rattle.ground.specs.Believed.Search.{any}
use Rattle.minutes.specs.Believed.Minutes.{E, within, in_phase}
use Rattle.hours.specs.declared.HoursRef.{HoursRef}
use Rattle.hours.specs.declared.HoursRef.TheVariants.{Always, Numbered}

pub record Pair : Type 0 where
  pub offset : ℕ
  pub length : ℕ

pub record Hours : Type 0 where
  pub begin : ℕ
  pub end : ℕ
  pub pairs : List Pair

-- begin ≤ t < end, and some pair has offset ≤ (t mod c) < offset + length
unfoldable pub holds : ℕ → Hours → ℕ → Bool
holds c h t = within h.begin h.end t && any (λ (p : Pair). in_phase c p.offset p.length t) h.pairs

-- hours that never hold: what a reference past the last record would name
abbrev pub never : Hours
never = record { begin = 0; end = 0; pairs = [] }

-- the hours that a reference names, among the records hs, hold at t: always means minutes 0 to E - 1
unfoldable pub ref_holds : ℕ → List Hours → HoursRef → ℕ → Bool
ref_holds c hs Always t = ltb t E
ref_holds c hs (Numbered k) t = holds c (get_or hs k never) t

-- the reference that a byte stands for: 255 is always
unfoldable pub ref_of : ℕ → HoursRef
ref_of b = pick (eqb b 255) Always (Numbered b)

-- the byte of a reference
unfoldable pub ref_byte : HoursRef → ℕ
ref_byte Always = 255
ref_byte (Numbered k) = k

-- a reference that is neither always nor the number of one of h records
unfoldable pub dangling : ℕ → HoursRef → Bool
dangling h Always = false
dangling h (Numbered k) = leb h k
