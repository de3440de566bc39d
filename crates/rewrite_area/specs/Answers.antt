-- What rewriting answers.
use Rattle.std.specs.Prelude.{Result, Ok, Err}
use Rattle.ground.specs.Believed.Outcome.{Outcome}
use Rattle.refusal.specs.Believed.Ends.{outcome_of}
use Rattle.refusal.specs.declared.Refusal.{Refusal}
use Rattle.rewrite_rules.specs.Believed.Rewriting.{Written}
use Rattle.rewrite_area.specs.declared.Rewritten.{Rewritten}

-- as the rules tell it
abbrev pub told : Result Rewritten Refusal → Result Written Refusal
told (Ok w) = Ok (record { derived = w.derived; rows = w.rows; length = w.length })
told (Err r) = Err r

abbrev pub written_given : Result Rewritten Refusal → Outcome Written
written_given r = outcome_of (told r)
