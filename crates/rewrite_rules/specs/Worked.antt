-- The worked field of document 01 ("Worked minutes"): C 10, hours (3, 5, pair (0, 10)) and (0, E, pair (6, 2)); era 3 to 5 with cell 6 to 8.
use Rattle.std.specs.Prelude.{[], ◌∷◌}
use Rattle.minutes.specs.Believed.Minutes.{E, Window}
use Rattle.hours.specs.declared.HoursRef.TheVariants.{Always}
use Rattle.rota.specs.Believed.Rota.{Rota}

-- role 0 is always enabled, and always has user 0 and permission 0
abbrev pub example : Rota
example =
    record {
      format = 1;
      cycle = 10;
      users = 1;
      permissions = 1;
      hours = record { begin = 3; end = 5; pairs = record { offset = 0; length = 10 } ∷ [] } ∷ record { begin = 0; end = E; pairs = record { offset = 6; length = 2 } ∷ [] } ∷ [];
      roles = Always ∷ [];
      user-rows = record { number = 0; role = 0; hours = Always } ∷ [];
      permission-rows = record { number = 0; role = 0; hours = Always } ∷ [];
    }

abbrev pub field : Window
field = record { begin = 3; end = 5; offset = 6; length = 2 }
