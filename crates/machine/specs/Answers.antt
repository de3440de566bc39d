-- What each call's result stands for: 01's number or values, and the state. A refused call leaves the state that came.
use Rattle.std.specs.Prelude.{Result, Ok, Err}
use Rattle.ground.specs.Believed.Outcome.{Outcome, refused, given}
use Rattle.refusal.specs.Believed.Numbers.{number}
use Rattle.refusal.specs.declared.Refusal.{Refusal}
use Rattle.machine.specs.Believed.Machine.{Gift, Step}
use Rattle.machine.specs.declared.Service.{Service}

-- what is given, as the call's gift, or the number of the refusal
abbrev pub gives : {A : Type 0} → (A → Gift) → Result A Refusal → Outcome Gift
gives gift (Ok a) = given (gift a)
gives gift (Err r) = refused (number r)

-- of a call that gives the state that it leaves; of one that leaves the state
abbrev pub stepped : {A : Type 0} → (A → Gift) → Service → Result (A × Service) Refusal → Step
stepped gift σ (Ok a) = record { outcome = given (gift a.0); after = a.1 }
stepped gift σ (Err r) = record { outcome = refused (number r); after = σ }

abbrev pub remaining : {A : Type 0} → (A → Gift) → Service → Result A Refusal → Step
remaining gift σ r = record { outcome = gives gift r; after = σ }

-- the two parts of it
abbrev pub answer_in : {A : Type 0} → Result (A × Service) Refusal → Result A Refusal
answer_in (Ok a) = Ok a.0
answer_in (Err r) = Err r

abbrev pub state_after : {A : Type 0} → Service → Result (A × Service) Refusal → Service
state_after σ (Ok a) = a.1
state_after σ (Err r) = σ
