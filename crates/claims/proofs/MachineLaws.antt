-- The machine over two policies with the same counts that agree on every question below them: the same steps, and so the same runs.
-- Assumes nothing.
use Prim.Native.Nat.{ℕ, zero, suc, ◌+◌, ◌<◌, ◌≤◌}
use mathlib.Core.Path.{◌≡◌, refl, ap, ◌∙◌}
use mathlib.Core.Bool.{Bool, true, false, not, ◌&&◌}
use Rattle.std.proofs.Common.{Option}
use mathlib.Core.List.{List, [], ◌∷◌}
use native.Mathlib.Omega.{arith}
use lib.Dec.{leb}
use borrow.Author.Tests.{leb-false}
use Rattle.ground.specs.Believed.Judgement.{refuse, ◌or_else◌}
use Rattle.ground.specs.Believed.Outcome.{given}
use Rattle.ground.proofs.BoolLaws.{or_no}
use Rattle.ground.proofs.JudgementLaws.{or_else-zero, refuse-no}
use Rattle.ground.proofs.SearchLaws.{any_same}
use Rattle.bitset.specs.Believed.Sets.{has, difference, count}
use Rattle.bitset.proofs.SetLaws.{set_of-same}
use Rattle.minutes.specs.Believed.Minutes.{E}
use Rattle.policy.specs.Believed.Policy.{Policy, is_yes, holds_any}
use Rattle.policy.specs.Believed.Steady.{lapses, steady_over}
use Rattle.machine.specs.Believed.Machine.{Call, advance, «open», close, ask, closed, answered, Step, state, staying, state_judged, advance_judged, open_judged, ask_judged, call_judged, given_by, left_by, settled, step_by, machine_step, service_step, run}
use Rattle.machine.specs.declared.Service.{Service}

-- steps that agree give runs that agree
pub run-same : (f g : Service → Call → Step) → ((σ : Service) (c : Call) → f σ c ≡ g σ c) → (cs : List Call) (σ : Service) → run f σ cs ≡ run g σ cs
unfolding run
run-same f g h [] σ = refl
run-same f g h (c ∷ cs) σ =
    let next : run f (f σ c).after cs ≡ run g (g σ c).after cs = run-same f g h cs (f σ c).after ∙ ap (λ (z : Step). run g z.after cs) (h σ c) in
    λ i. record { outcomes = (h σ c i).outcome ∷ (next i).outcomes; final = (next i).final }

-- a service on bytes that are not refused is the machine
pub service-is : (j : ℕ) (π : Policy) (σ : Service) (c : Call) → j ≡ 0 → service_step j π σ c ≡ machine_step π σ c
unfolding service_step machine_step ◌or_else◌
service-is j π σ c e = rw e refl

module _ (n m : ℕ) (f g : ℕ → ℕ → ℕ → Option ℕ) (same : (u p t : ℕ) → u < n → p < m → t < E → f u p t ≡ g u p t) where
  abbrev pub K : Policy
  K = record { users = n; permissions = m; answer = f }

  abbrev pub L : Policy
  L = record { users = n; permissions = m; answer = g }

  same-holds : (t u : ℕ) → u < n → t < E → holds_any K t u ≡ holds_any L t u
  unfolding holds_any
  same-holds t u hu ht = any_same m _ _ (λ p hp. ap is_yes (same u p t hu hp ht))

  same-lapses : (a b u : ℕ) → u < n → b ≤ E → lapses K a b u ≡ lapses L a b u
  unfolding lapses
  same-lapses a b u hu hb = any_same b _ _ (λ v hv. ap (λ (x : Bool). leb a v && not x) (same-holds v u hu (omega arith)))

  same-staying : (o a t : ℕ) → t < E → staying K o a t ≡ staying L o a t
  unfolding staying steady_over
  same-staying o a t ht = set_of-same n _ _ (λ u hu. ap (λ (b : Bool). has o u && not b) (same-lapses (a + 1) (t + 1) u hu (omega arith)))

  -- the refusals
  same-judged : (σ : Service) (c : Call) → σ.now < E → call_judged K σ c ≡ call_judged L σ c
  unfolding call_judged
  same-judged σ (advance t) h = refl
  same-judged σ («open» u) h = go (leb n u) refl
    where
      go : (b : Bool) → leb n u ≡ b → open_judged n (holds_any K σ.now u) σ u ≡ open_judged n (holds_any L σ.now u) σ u
      go true e = unfold open_judged refuse ◌or_else◌ in rw e refl
      go false e = ap (λ (d : Bool). open_judged n d σ u) (same-holds σ.now u (leb-false n u e) h)
  same-judged σ (close u) h = refl
  same-judged σ (ask u p) h = refl

  -- what a call that is not refused gives and leaves
  same-given : (σ : Service) (c : Call) → σ.now < E → call_judged K σ c ≡ 0 → given_by K σ c ≡ given_by L σ c
  unfolding call_judged advance_judged ask_judged given_by
  same-given σ (advance t) h z =
      let ht : t < E = leb-false E t (refuse-no 32 _ (or_else-zero _ _ z).0) in
      ap (λ (o : ℕ). closed (count (difference σ.«open» o))) (same-staying σ.«open» σ.now t ht)
  same-given σ («open» u) h z = refl
  same-given σ (close u) h z = refl
  same-given σ (ask u p) h z =
      let a = or_else-zero _ _ z in
      let b = or_else-zero _ _ a.1 in
      ap answered (same u p σ.now (leb-false n u (refuse-no 33 _ a.0)) (leb-false m p (refuse-no 34 _ b.0)) h)

  same_left : (σ : Service) (c : Call) → call_judged K σ c ≡ 0 → left_by K σ c ≡ left_by L σ c
  unfolding call_judged advance_judged left_by
  same_left σ (advance t) z =
      let ht : t < E = leb-false E t (refuse-no 32 _ (or_else-zero _ _ z).0) in
      ap (λ (o : ℕ). state t o) (same-staying σ.«open» σ.now t ht)
  same_left σ («open» u) z = refl
  same_left σ (close u) z = refl
  same_left σ (ask u p) z = refl

  pub same_step : (σ : Service) (c : Call) → machine_step K σ c ≡ machine_step L σ c
  unfolding machine_step state_judged
  same_step σ c = by_state (state_judged n σ) refl
    where
      by_call : σ.now < E → (j : ℕ) → call_judged K σ c ≡ j → step_by j K σ c ≡ step_by j L σ c
      by_call h zero e = unfold step_by settled in λ i. record { outcome = given (same-given σ c h e i); after = same_left σ c e i }
      by_call h (suc j) e = unfold step_by settled in refl

      by_state : (j : ℕ) → state_judged n σ ≡ j → step_by (j or_else call_judged K σ c) K σ c ≡ step_by (j or_else call_judged L σ c) L σ c
      by_state zero e =
          let h : σ.now < E = leb-false E σ.now (or_no _ _ (refuse-no 39 _ e)).0 in
          unfold ◌or_else◌ in (by_call h (call_judged K σ c) refl ∙ ap (λ (j : ℕ). step_by j L σ c) (same-judged σ c h))
      by_state (suc j) e = unfold ◌or_else◌ step_by settled in refl
