-- What document 01 marks for proof under "Worked minutes", and what items 3, 4 and 5 of document 02 give on S, as one statement.
use Rattle.std.specs.Prelude.{◌≡◌, length, replicate, None}
use mathlib.Core.List.{◌∷◌, Memᴰ}
use Rattle.ground.specs.Believed.Outcome.{refused, given}
use Rattle.calendar.specs.Believed.Calendar.{date_at, minute_of}
use Rattle.rota.specs.Believed.Rota.{policy_of}
use Rattle.rota.specs.Believed.RotaBytes.{rota_of}
use Rattle.rota.specs.Worked.{small, WorkedMinutes}
use Rattle.table_board.specs.Believed.Board.{shown_at}
use Rattle.rewrite_rules.specs.Believed.Rewriting.{fields, kept_as, Kept, kept, rewrite, rewrite_judged}
use Rattle.rewrite_rules.specs.Worked.{example, field}
use Rattle.machine.specs.declared.Service.{Service}
use Rattle.machine.specs.Believed.Machine.{Call, advance, «open», closed, done, Step, state, fresh, machine_step}

-- one call of the plain machine on S
abbrev pub on-small : Service → Call → Step
on-small = machine_step (policy_of (rota_of small))

pub record Worked : Type 0 where
  pub minutes : WorkedMinutes
  -- fresh on S: open 1 gives 43; open 0, advance 4 gives count 1
  pub opens-1 : (on-small fresh («open» 1)).outcome ≡ refused 43
  pub opens-0 : on-small fresh («open» 0) ≡ record { outcome = given done; after = state 0 1 }
  pub advances-4 : on-small (state 0 1) (advance 4) ≡ record { outcome = given (closed 1); after = state 4 0 }
  -- open 0 at minute 1, then advance 11 gives count 1 (document 02, item 3): at minute 4 volunteer 0 holds no right
  pub opens-0-at-1 : on-small (state 1 0) («open» 0) ≡ record { outcome = given done; after = state 1 1 }
  pub advances-11 : on-small (state 1 1) (advance 11) ≡ record { outcome = given (closed 1); after = state 11 0 }
  -- S lists 8 rows and needs 195 bytes, and 194 give 20 (document 02, item 4)
  pub lists-8 : length (rewrite (rota_of small)).rows ≡ 8
  pub needs-195 : rewrite_judged small 195 ≡ 0
  pub refused-194 : rewrite_judged small 194 ≡ 20
  -- the board of S's table at minutes 3, 12 and 37 (document 02, item 5, which names no minute of S)
  pub board-3 : shown_at (rewrite (rota_of small)) 3 ≡ record { rows = 1; permissions = 1 ∷ replicate 63 0 }
  pub board-12 : shown_at (rewrite (rota_of small)) 12 ≡ record { rows = 1; permissions = 1 ∷ 1 ∷ replicate 62 0 }
  pub board-37 : shown_at (rewrite (rota_of small)) 37 ≡ record { rows = 0; permissions = replicate 64 0 }
  -- C 10, hours (3, 5, pair (0, 10)) and (0, E, pair (6, 2)): era 3 to 5 keeps no field with cell 6 to 8, though it has one
  pub era-3-to-5 : Memᴰ field (fields example) × (kept_as example 0 field ≡ None)
      × ((k : Kept) → Memᴰ k (kept example) → k.field ≡ field → ⊥)
  -- 29 February 2004, 00:00, is minute 1,661,760, a Sunday; the last minute is a Sunday
  pub leap-day-is : minute_of 2004 2 29 0 0 ≡ given 1661760
  pub leap-day-sunday : (date_at 1661760).weekday ≡ 6
  pub last-sunday : (date_at 210379679).weekday ≡ 6
