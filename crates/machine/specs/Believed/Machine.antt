-- The plain machine (document 01, "The service"; refusals 40 to 44), as document 02, item 3, amends it. It is fed what answers questions, a policy,
-- and the calls' arguments, and keeps a state of its own. It knows nothing of bytes.
use Rattle.std.specs.Prelude.{ℕ, zero, suc, ◌+◌, ◌^◌, Bool, not, ◌||◌, List, [], ◌∷◌, leb, ltb, Option}
use Rattle.ground.specs.Believed.Judgement.{refuse, ◌or_else◌}
use Rattle.ground.specs.Believed.Outcome.{Outcome, refused, given}
use Rattle.bitset.specs.Believed.Sets.{has, insert, remove, difference, count}
use Rattle.minutes.specs.Believed.Minutes.{E}
use Rattle.policy.specs.Believed.Policy.{Policy, holds_any}
use Rattle.policy.specs.Believed.Steady.{steady_over}
use Rattle.machine.specs.declared.Service.{Service}

-- the state: now, a minute, and open, a set of users
abbrev pub state : ℕ → ℕ → Service
state now sessions = record { now = now; «open» = sessions }

abbrev pub fresh : Service
fresh = state 0 0

pub data Call : Type 0 where
  advance : ℕ → Call
  «open» : ℕ → Call
  close : ℕ → Call
  ask : ℕ → ℕ → Call

-- what a call gives: the count of sessions that it closed, nothing, or an answer
pub data Gift : Type 0 where
  closed : ℕ → Gift
  done : Gift
  answered : Option ℕ → Gift

-- what a call leaves: its outcome and the state
pub record Step : Type 0 where
  pub outcome : Outcome Gift
  pub after : Service

-- those in open who hold a permission at each minute after now, up to and with m (document 02, item 3)
unfoldable pub staying : Policy → ℕ → ℕ → ℕ → ℕ
staying π sessions now m = steady_over π sessions (now + 1) (m + 1)

-- 40: now over E - 1, or a bit of open at or above U
unfoldable pub state_judged : ℕ → Service → ℕ
state_judged users σ = refuse 40 (leb E σ.now || leb (2 ^ users) σ.«open»)

-- each call's own refusals, in order; `holds` says whether u holds a permission now
unfoldable pub advance_judged : Service → ℕ → ℕ
advance_judged σ m = refuse 33 (leb E m) or_else refuse 41 (ltb m σ.now)

unfoldable pub open_judged : ℕ → Bool → Service → ℕ → ℕ
open_judged users holds σ u = refuse 34 (leb users u) or_else refuse 42 (has σ.«open» u) or_else refuse 43 (not holds)

unfoldable pub close_judged : ℕ → Service → ℕ → ℕ
close_judged users σ u = refuse 34 (leb users u) or_else refuse 44 (not (has σ.«open» u))

unfoldable pub ask_judged : ℕ → ℕ → Service → ℕ → ℕ → ℕ
ask_judged users permissions σ u p = refuse 34 (leb users u) or_else refuse 35 (leb permissions p) or_else refuse 44 (not (has σ.«open» u))

unfoldable pub call_judged : Policy → Service → Call → ℕ
call_judged π σ (advance m) = advance_judged σ m
call_judged π σ («open» u) = open_judged π.users (holds_any π σ.now u) σ u
call_judged π σ (close u) = close_judged π.users σ u
call_judged π σ (ask u p) = ask_judged π.users π.permissions σ u p

-- what a call that is not refused gives, and the state that it leaves
unfoldable pub given_by : Policy → Service → Call → Gift
given_by π σ (advance m) = closed (count (difference σ.«open» (staying π σ.«open» σ.now m)))
given_by π σ («open» u) = done
given_by π σ (close u) = done
given_by π σ (ask u p) = answered (π.answer u p σ.now)

unfoldable pub left_by : Policy → Service → Call → Service
left_by π σ (advance m) = state m (staying π σ.«open» σ.now m)
left_by π σ («open» u) = state σ.now (insert σ.«open» u)
left_by π σ (close u) = state σ.now (remove σ.«open» u)
left_by π σ (ask u p) = σ

-- a refused call gives the first number that applies, and the state σ stays
unfoldable pub settled : ℕ → Gift → Service → Service → Step
settled zero gift after σ = record { outcome = given gift; after = after }
settled (suc n) gift after σ = record { outcome = refused (suc n); after = σ }

unfoldable pub step_by : ℕ → Policy → Service → Call → Step
step_by j π σ c = settled j (given_by π σ c) (left_by π σ c) σ

-- one call of the machine; behind lent bytes that are judged to be j, one call of a service
unfoldable pub machine_step : Policy → Service → Call → Step
machine_step π σ c = step_by (state_judged π.users σ or_else call_judged π σ c) π σ c

unfoldable pub service_step : ℕ → Policy → Service → Call → Step
service_step j π σ c = step_by (j or_else state_judged π.users σ or_else call_judged π σ c) π σ c

-- a whole list of calls: each gets the state that the call before it left
pub record Run : Type 0 where
  pub outcomes : List (Outcome Gift)
  pub final : Service

unfoldable pub run : (Service → Call → Step) → Service → List Call → Run
run step σ [] = record { outcomes = []; final = σ }
run step σ (c ∷ cs) =
    let next = run step (step σ c).after cs in
    record { outcomes = (step σ c).outcome ∷ next.outcomes; final = next.final }
