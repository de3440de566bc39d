-- What the C interface tells, in plain numbers: a refusal's number or 0, then the values, 0 where there is none.
use Rattle.std.specs.Prelude.{ℕ, Option, None, Some}
use Rattle.ground.specs.Believed.Outcome.{Outcome, refused, given}
use Rattle.calendar.specs.declared.Date.{Date}
use Rattle.rota.specs.declared.Counts as rota
use Rattle.table.specs.declared.Counts as table
use Rattle.rewrite_rules.specs.Believed.Rewriting.{Written}
use Rattle.machine.specs.Believed.Machine.{Gift, Step, closed, done, answered}
use Rattle.machine.specs.declared.Service.{Service}
use Rattle.host_answers.specs.declared.RotaTold.{RotaTold}
use Rattle.host_answers.specs.declared.TableTold.{TableTold}
use Rattle.host_answers.specs.declared.TidiedTold.{TidiedTold}
use Rattle.host_answers.specs.declared.WrittenTold.{WrittenTold}
use Rattle.host_answers.specs.declared.DateTold.{DateTold}
use Rattle.host_answers.specs.declared.MinuteTold.{MinuteTold}
use Rattle.host_answers.specs.declared.Told.{Told}
use Rattle.host_answers.specs.declared.NextTold.{NextTold}
use Rattle.host_answers.specs.declared.Stepped.{Stepped}

abbrev pub rota_told : Outcome rota.Counts → RotaTold
rota_told (refused n) = record { refusal = n; cycle = 0; hours = 0; users = 0; permissions = 0; roles = 0; user_rows = 0; permission_rows = 0; format = 0 }
rota_told (given c) = record { refusal = 0; cycle = c.cycle; hours = c.hours; users = c.users; permissions = c.permissions; roles = c.roles; user_rows = c.user_rows; permission_rows = c.permission_rows; format = c.format }

abbrev pub table_told : Outcome table.Counts → TableTold
table_told (refused n) = record { refusal = n; cycle = 0; users = 0; permissions = 0; roles = 0; derived = 0; rows = 0 }
table_told (given c) = record { refusal = 0; cycle = c.cycle; users = c.users; permissions = c.permissions; roles = c.roles; derived = c.derived; rows = c.rows }

abbrev pub tidied_told : Outcome ℕ → TidiedTold
tidied_told (refused n) = record { refusal = n; length = 0 }
tidied_told (given n) = record { refusal = 0; length = n }

abbrev pub written_told : Outcome Written → WrittenTold
written_told (refused n) = record { refusal = n; derived = 0; rows = 0; length = 0 }
written_told (given w) = record { refusal = 0; derived = w.derived; rows = w.rows; length = w.length }

abbrev pub date_told : Outcome Date → DateTold
date_told (refused n) = record { refusal = n; year = 0; month = 0; day = 0; weekday = 0; hour = 0; minute = 0 }
date_told (given d) = record { refusal = 0; year = d.year; month = d.month; day = d.day; weekday = d.weekday; hour = d.hour; minute = d.minute }

abbrev pub minute_told : Outcome ℕ → MinuteTold
minute_told (refused n) = record { refusal = n; minute = 0 }
minute_told (given t) = record { refusal = 0; minute = t }

abbrev pub telling : ℕ → ℕ → ℕ → Told
telling n y v = record { refusal = n; yes = y; value = v }

-- 1 for yes, with its role
abbrev pub answer_told : Option ℕ → Told
answer_told None = telling 0 0 0
answer_told (Some r) = telling 0 1 r

abbrev pub question_told : Outcome (Option ℕ) → Told
question_told (refused n) = telling n 0 0
question_told (given o) = answer_told o

-- 1 with the minute of the next use (document 02, item 1)
abbrev pub next_told : Outcome (Option ℕ) → NextTold
next_told (refused n) = record { refusal = n; found = 0; minute = 0 }
next_told (given None) = record { refusal = 0; found = 0; minute = 0 }
next_told (given (Some t)) = record { refusal = 0; found = 1; minute = t }

-- a call tells the count of an advance, or an answer
abbrev pub gift_told : Gift → Told
gift_told (closed n) = telling 0 0 n
gift_told done = telling 0 0 0
gift_told (answered o) = answer_told o

abbrev pub told_by : Outcome Gift → Told
told_by (refused n) = telling n 0 0
told_by (given g) = gift_told g

-- a state with what is told
abbrev pub leaving : Service → Told → Stepped
leaving σ a = record { service = σ; told = a }

unfoldable pub stepped_by : Step → Stepped
stepped_by w = leaving w.after (told_by w.outcome)
