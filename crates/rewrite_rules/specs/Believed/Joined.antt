-- Rows that touch become one (document 02, item 4).
use Rattle.std.specs.Prelude.{◌+◌, ◌≡◌, Bool, false, ◌&&◌, List, [], ◌∷◌, eqb}
use Rattle.ground.specs.Believed.Choice.{pick}
use Rattle.table.specs.Believed.Table.{Row}

-- two rows of one derived role, in one era, of which the second begins at the phase where the first ends
abbrev pub touches : Row → Row → Bool
touches v w =
    eqb v.derived w.derived && eqb v.window.begin w.window.begin && eqb v.window.end w.window.end
    && eqb (v.window.offset + v.window.length) w.window.offset

-- one row with the phases of both
abbrev pub spanning : Row → Row → Row
spanning v w =
    record {
      derived = v.derived;
      window = record { begin = v.window.begin; end = v.window.end; offset = v.window.offset; length = v.window.length + w.window.length };
    }

-- a row in front of rows that are joined
unfoldable pub attach : Row → List Row → List Row
attach v [] = v ∷ []
attach v (w ∷ ws) = pick (touches v w) (spanning v w ∷ ws) (v ∷ w ∷ ws)

-- neighbours that touch are one row, in runs of any length
unfoldable pub join_rows : List Row → List Row
join_rows [] = []
join_rows (v ∷ ws) = attach v (join_rows ws)

-- no row touches the next
abbrev pub NoneTouch : List Row → Type 0
NoneTouch [] = Unit {0}
NoneTouch (v ∷ []) = Unit {0}
NoneTouch (v ∷ w ∷ ws) = (touches v w ≡ false) × NoneTouch (w ∷ ws)
