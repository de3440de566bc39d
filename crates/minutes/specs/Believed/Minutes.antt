-- Minutes (document 01, "Minutes"), and when a window of dates and of the cycle covers one: a row's ("The table's bytes"), and by its two tests an
-- hours record's ("Hours").
use Rattle.std.specs.Prelude.{ℕ, ◌+◌, ◌%◌, Bool, ◌&&◌, leb, ltb}

-- one past the last minute, which lies in 31 December 2400
unfoldable pub E : ℕ
E = 210379680

-- a ≤ x < b
abbrev pub within : ℕ → ℕ → ℕ → Bool
within a b x = leb a x && ltb x b

-- offset ≤ (t mod c) < offset + length: the phase counts from minute 0
unfoldable pub in_phase : ℕ → ℕ → ℕ → ℕ → Bool
in_phase c offset length t = within offset (offset + length) (t % c)

pub record Window : Type 0 where
  pub begin : ℕ
  pub end : ℕ
  pub offset : ℕ
  pub length : ℕ

-- begin ≤ t < end and offset ≤ (t mod c) < offset + length
unfoldable pub covers : ℕ → Window → ℕ → Bool
covers c w t = within w.begin w.end t && in_phase c w.offset w.length t
