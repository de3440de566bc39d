-- Year starts by formula (document 02, item 2), for year 2001 + k, divisions rounded down.
use Rattle.std.specs.Prelude.{ℕ, ◌+◌, ◌-◌, ◌*◌, ◌/◌}

-- 1 January: 365 days for each year before, a day more for each fourth year, and a day less for each hundredth
abbrev pub start_by : ℕ → ℕ
start_by k = 365 * k + k / 4 - k / 100
