-- The calls' parts make up the calls of the machine, over any policy whose counts are at hand.
-- Assumes nothing.
use Prim.Native.Nat.{ℕ, ◌+◌, ◌<◌, ◌≤◌}
use mathlib.Core.Path.{◌≡◌, refl, sym, ap, ap₂, ◌∙◌}
use mathlib.Core.Bool.{Bool, true, false}
use Rattle.std.proofs.Common.{Option}
use borrow.Author.Tests.{leb-false}
use lib.Dec.{leb}
use Rattle.ground.specs.Believed.Judgement.{refuse, ◌or_else◌}
use Rattle.ground.specs.Believed.Outcome.{refused, given}
use Rattle.ground.proofs.JudgementLaws.{or_else-ne}
use Rattle.bitset.specs.Believed.Sets.{has, difference, count}
use Rattle.bitset.proofs.SetLaws.{has-below}
use Rattle.policy.specs.Believed.Policy.{Policy, holds_any, holders_at}
use Rattle.policy.specs.Believed.Steady.{steady_over}
use Rattle.machine.proofs.CoreLaws.{settled-refused, settled-given}
use Rattle.machine.specs.Believed.Machine.{Call, advance, «open», close, ask, closed, answered, state, staying, state_judged, advance_judged, open_judged, close_judged, ask_judged, call_judged, given_by, left_by, step_by, service_step}
use Rattle.machine.specs.Core.{moved_step, opened_step, closed_step}
use Rattle.machine.specs.declared.Service.{Service}

-- lent bytes that are judged to be j are accepted, and these are the counts of what they say
pub record Ready (j users permissions : ℕ) (π : Policy) : Type 0 where
  pub accepted : j ≡ 0
  pub users-are : users ≡ π.users
  pub permissions-are : permissions ≡ π.permissions
  pub few : users ≤ 64

module _ (π : Policy) (σ : Service) where
  step-refused : (n : ℕ) (c : Call) → (n ≡ 0 → ⊥) → record { outcome = refused n; after = σ } ≡ step_by n π σ c
  unfolding step_by
  step-refused n c h = settled-refused n _ _ σ n refl h

  step_given : (n : ℕ) (c : Call) → n ≡ 0 → record { outcome = given (given_by π σ c); after = left_by π σ c } ≡ step_by n π σ c
  unfolding step_by
  step_given n c h = settled-given n _ _ σ n refl h

  -- the bytes are refused
  pub bytes-refused : (j n : ℕ) (c : Call) → (j ≡ n) × (j ≡ 0 → ⊥) → record { outcome = refused n; after = σ } ≡ service_step j π σ c
  unfolding service_step
  bytes-refused j n c h =
      ap (λ (k : ℕ). record { outcome = refused k; after = σ }) (sym h.0) ∙ step-refused j c h.1 ∙ ap (λ (k : ℕ). step_by k π σ c) (sym (or_else-ne j _ h.1))

module _ {j users permissions : ℕ} {π : Policy} (w : Ready j users permissions π) (σ : Service) where
  -- a call judged by n
  judged : (n : ℕ) (c : Call) → n ≡ state_judged π.users σ or_else call_judged π σ c → step_by n π σ c ≡ service_step j π σ c
  unfolding service_step ◌or_else◌
  judged n c e = rw (w.accepted, ← e) refl

  call-refused : (n : ℕ) (c : Call) → n ≡ state_judged π.users σ or_else call_judged π σ c → (n ≡ 0 → ⊥) → record { outcome = refused n; after = σ } ≡ service_step j π σ c
  call-refused n c e h = step-refused π σ n c h ∙ judged n c e

  call-given : (n : ℕ) (c : Call) → n ≡ state_judged π.users σ or_else call_judged π σ c → n ≡ 0
      → record { outcome = given (given_by π σ c); after = left_by π σ c } ≡ service_step j π σ c
  call-given n c e z = step_given π σ n c z ∙ judged n c e

  state-as : state_judged users σ ≡ state_judged π.users σ
  state-as = ap (λ (n : ℕ). state_judged n σ) w.users-are

  -- the judgements by the counts are those by the policy
  advance-as : (m n : ℕ) → n ≡ state_judged users σ or_else advance_judged σ m → n ≡ state_judged π.users σ or_else call_judged π σ (advance m)
  unfolding call_judged
  advance-as m n e = rw state-as at e

  close-as : (u : ℕ) → close_judged users σ u ≡ call_judged π σ (close u)
  unfolding call_judged
  close-as u = ap (λ (n : ℕ). close_judged n σ u) w.users-are

  ask-as : (u p n : ℕ) → n ≡ state_judged users σ or_else ask_judged users permissions σ u p → n ≡ state_judged π.users σ or_else call_judged π σ (ask u p)
  unfolding call_judged
  ask-as u p n e = rw (state-as, w.users-are, w.permissions-are) at e

  has-holder : (t u : ℕ) → u < π.users → has (holders_at π t) u ≡ holds_any π t u
  unfolding holders_at
  has-holder t u l = has-below π.users (holds_any π t) u l

  open-as : (holders u : ℕ) → holders ≡ holders_at π σ.now → open_judged users (has holders u) σ u ≡ call_judged π σ («open» u)
  unfolding open_judged call_judged refuse ◌or_else◌
  open-as holders u e = rw (w.users-are, e) (go (leb π.users u) refl)
    where
      go : (b : Bool) → leb π.users u ≡ b → open_judged π.users (has (holders_at π σ.now) u) σ u ≡ open_judged π.users (holds_any π σ.now u) σ u
      go true h = rw h refl
      go false h = rw (has-holder σ.now u (leb-false _ _ h)) refl

  -- advance
  pub advance-refused : (m n : ℕ) → n ≡ state_judged users σ or_else advance_judged σ m → (n ≡ 0 → ⊥) → record { outcome = refused n; after = σ } ≡ service_step j π σ (advance m)
  advance-refused m n e h = call-refused n (advance m) (advance-as m n e) h

  pub advance-moved : (m n stays a b : ℕ) → n ≡ state_judged users σ or_else advance_judged σ m → n ≡ 0 → stays ≡ steady_over π σ.«open» a b
      → a ≡ σ.now + 1 → b ≡ m + 1 → moved_step stays σ m ≡ service_step j π σ (advance m)
  unfolding moved_step given_by left_by staying
  advance-moved m n stays a b e z h ea eb =
      ap (λ (x : ℕ). record { outcome = given (closed (count (difference σ.«open» x))); after = state m x }) (rw (ea, eb) at h)
      ∙ call-given n (advance m) (advance-as m n e) z

  -- open
  pub open-refused : (u n : ℕ) → n ≡ state_judged users σ → (n ≡ 0 → ⊥) → record { outcome = refused n; after = σ } ≡ service_step j π σ («open» u)
  open-refused u n e h = call-refused n («open» u) (e ∙ state-as ∙ sym (or_else-ne _ _ (λ z. h (e ∙ state-as ∙ z)))) h

  pub open-opened : (u n holders : ℕ) → n ≡ state_judged users σ → n ≡ 0 → holders ≡ holders_at π σ.now → opened_step users holders σ u ≡ service_step j π σ («open» u)
  unfolding opened_step step_by given_by left_by ◌or_else◌
  open-opened u n holders e z h =
      judged (open_judged users (has holders u) σ u) («open» u) (rw (← state-as, ← e, z) (open-as holders u h))

  -- close
  pub close-closed : (u : ℕ) → closed_step users σ u ≡ service_step j π σ (close u)
  unfolding closed_step step_by given_by left_by
  close-closed u =
      judged (state_judged users σ or_else close_judged users σ u) (close u) (ap₂ ◌or_else◌ state-as (close-as u))

  -- ask
  pub ask-refused : (u p n : ℕ) → n ≡ state_judged users σ or_else ask_judged users permissions σ u p → (n ≡ 0 → ⊥)
      → record { outcome = refused n; after = σ } ≡ service_step j π σ (ask u p)
  ask-refused u p n e h = call-refused n (ask u p) (ask-as u p n e) h

  pub ask-answered : (u p n : ℕ) (o : Option ℕ) → n ≡ state_judged users σ or_else ask_judged users permissions σ u p → n ≡ 0
      → o ≡ π.answer u p σ.now → record { outcome = given (answered o); after = σ } ≡ service_step j π σ (ask u p)
  unfolding given_by left_by
  ask-answered u p n o e z h = ap (λ (x : Option ℕ). record { outcome = given (answered x); after = σ }) h ∙ call-given n (ask u p) (ask-as u p n e) z
