-- What an operation's result stands for: its answer, or the number of its refusal.
use Rattle.std.specs.Prelude.{ℕ, Result, Ok, Err}
use Rattle.ground.specs.Believed.Outcome.{Outcome, refused, given}
use Rattle.refusal.specs.Believed.Numbers.{number}
use Rattle.refusal.specs.declared.Refusal.{Refusal}

abbrev pub outcome_of : {A : Type 0} → Result A Refusal → Outcome A
outcome_of (Ok a) = given a
outcome_of (Err r) = refused (number r)

-- as a judgement: 0 where nothing is refused, else the number of the refusal
abbrev pub judgement_of : {A : Type 0} → Result A Refusal → ℕ
judgement_of (Ok a) = 0
judgement_of (Err r) = number r
