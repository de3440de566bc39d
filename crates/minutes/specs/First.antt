-- The first minute of a window, found without a search. Nothing here is part of the rules: it is proved to be the first.
use Rattle.std.specs.Prelude.{ℕ, ◌+◌, ◌-◌, ◌%◌, ltb}
use Rattle.ground.specs.Believed.Choice.{pick}
use Rattle.minutes.specs.Believed.Minutes.{Window}

-- from a on, the first minute whose remainder by c lies from o to before e
unfoldable pub first_in : ℕ → ℕ → ℕ → ℕ → ℕ
first_in c a o e = pick (ltb (a % c) o) (a + (o - a % c)) (pick (ltb (a % c) e) a (a + (c - a % c) + o))

-- the first minute of a window, where it is before the window's end
abbrev pub minute_of : ℕ → Window → ℕ
minute_of c w = first_in c w.begin w.offset (w.offset + w.length)
