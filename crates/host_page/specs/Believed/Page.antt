-- A page of questions (document 02, item 6): a list of records, each with user, permission, minute and a place for its answer, put to a rota or to a table.
use Rattle.std.specs.Prelude.{ℕ, List, map, eqb, ltb, length, Option, None, Some}
use Rattle.ground.specs.Believed.Choice.{pick}
use Rattle.ground.specs.Believed.Judgement.{refuse, ◌or_else◌}
use Rattle.ground.specs.Believed.Outcome.{Outcome, refused, given}
use Rattle.policy.specs.Believed.Policy.{question}
use Rattle.source.specs.Believed.Lent.{judged_as, policy_as}
use Rattle.source.specs.declared.Kind.{Kind}
use Rattle.host_page.specs.declared.Place.{Place}
use Rattle.host_page.specs.declared.Question.{Question}

-- what a place receives: the number of a refusal, or 0; 1 for yes, with its role
abbrev pub place_told : Outcome (Option ℕ) → Place
place_told (refused n) = record { refusal = n; yes = 0; role = 0 }
place_told (given None) = record { refusal = 0; yes = 0; role = 0 }
place_told (given (Some r)) = record { refusal = 0; yes = 1; role = r }

-- a record whose place has what the single question gives on these bytes; its other fields keep their contents
unfoldable pub answered : Kind → List ℕ → Question → Question
answered k s q =
    record {
      user = q.user;
      permission = q.permission;
      minute = q.minute;
      answer = place_told (question (judged_as k s) (policy_as k s) q.user q.permission q.minute);
    }

-- of n records: 51 for more than 256, then the bytes' refusal
unfoldable pub page_judged : Kind → ℕ → List ℕ → ℕ
page_judged k n s = refuse 51 (ltb 256 n) or_else judged_as k s

-- the list afterwards: where it or the bytes are refused no place is written
unfoldable pub page_after : Kind → List ℕ → List Question → List Question
page_after k s qs = pick (eqb (page_judged k (length qs) s) 0) (map (answered k s) qs) qs
