-- Sessions through an advance (document 02, item 3).
--     stays       who stays, by the minutes
--     at-now      an advance to the minute that is now closes nobody
--     two_steps   an advance in two steps is one
-- Assumes nothing.
use Prim.Native.Nat.{ℕ, zero, suc, ◌+◌, ◌^◌, ◌<◌, ◌≤◌}
use mathlib.Core.Path.{◌≡◌, refl, sym, ap, ap₂, ◌∙◌}
use mathlib.Core.Bool.{Bool, true, false, not, ◌&&◌}
use native.Mathlib.Nat.{le_refl}
use native.Mathlib.Omega.{arith}
use borrow.Author.Tests.{lt-leb, ltb-true, ltb-false, le-ltb}
use lib.Dec.{ltb}
use Rattle.ground.specs.Believed.Judgement.{refuse, ◌or_else◌}
use Rattle.ground.specs.Believed.Outcome.{given}
use Rattle.ground.specs.Believed.Search.{one, count_below}
use Rattle.ground.proofs.BoolLaws.{clash}
use Rattle.bitset.specs.Believed.Sets.{has, difference, count}
use Rattle.bitset.proofs.SetLaws.{has-difference, has-past}
use Rattle.minutes.specs.Believed.Minutes.{E}
use Rattle.policy.specs.Believed.Policy.{Policy}
use Rattle.policy.proofs.SteadyLaws.{steady-all, steady-join, steady-small, steady-in, steady-out}
use Rattle.machine.specs.Believed.Machine.{Step, advance, closed, state, staying, state_judged, advance_judged, call_judged, given_by, left_by, settled, step_by, machine_step}
use Rattle.machine.specs.declared.Service.{Service}
use Rattle.claims.specs.Believed.Sleeping.{Stays, TwoSteps}

-- ---- counts: of three sets, each within the one before
one-between : (a b c : Bool) → (b ≡ true → a ≡ true) → (c ≡ true → b ≡ true) → one (a && not c) ≡ one (a && not b) + one (b && not c)
one-between true true true p q = refl
one-between true true false p q = refl
one-between true false false p q = refl
one-between true false true p q = clash false (q refl) refl
one-between false true c p q = clash false (p refl) refl
one-between false false c p q = refl

count-sum : (k : ℕ) (f g h : ℕ → Bool) → ((i : ℕ) → i < k → one (f i) ≡ one (g i) + one (h i)) → count_below k f ≡ count_below k g + count_below k h
unfolding count_below
count-sum zero f g h e = refl
count-sum (suc k) f g h e = let r = count-sum k f g h (λ i l. e i (omega arith)) in let t = e k (omega arith) in omega arith

count-steps : (x y z : ℕ) → ((i : ℕ) → i < 64 → has y i ≡ true → has x i ≡ true) → ((i : ℕ) → i < 64 → has z i ≡ true → has y i ≡ true)
    → count (difference x z) ≡ count (difference x y) + count (difference y z)
unfolding count
count-steps x y z p q =
    count-sum 64 _ _ _
    (λ i l. ap one (has-difference x z i l) ∙ one-between (has x i) (has y i) (has z i) (p i l) (q i l)
    ∙ ap₂ (λ (a b : ℕ). a + b) (sym (ap one (has-difference x y i l))) (sym (ap one (has-difference y z i l))))

-- ---- who stays
module _ (π : Policy) where
  pub stays : (sessions now m u : ℕ) → u < π.users → Stays π sessions now m u
  unfolding staying
  stays sessions now m u l =
      record {
        iff = (
          (λ h. let p = steady-out π sessions (now + 1) (m + 1) u l h in (p.0, λ v a b. p.1 v (omega arith) (omega arith))),
          (λ h. steady-in π sessions (now + 1) (m + 1) u l h.0 (λ v a b. h.1 v (omega arith) (omega arith))),
        );
      }

  pub at-now : (sessions now : ℕ) → sessions < 2 ^ π.users → staying π sessions now now ≡ sessions
  unfolding staying
  at-now sessions now l = sym (steady-all π sessions (now + 1) (now + 1) (le_refl _) l)

  module _ (sessions now : ℕ) where
    -- whoever stays was there
    within : (m u : ℕ) → has (staying π sessions now m) u ≡ true → has sessions u ≡ true
    unfolding staying
    within m u h = go (ltb u π.users) refl
      where
        go : (b : Bool) → ltb u π.users ≡ b → has sessions u ≡ true
        go true e = (steady-out π sessions (now + 1) (m + 1) u (ltb-true u π.users e) h).0
        go false e = clash _ h (has-past π.users _ u (steady-small π sessions (now + 1) (m + 1)) (ltb-false u π.users e))

    in-steps : (k m : ℕ) → now ≤ k → k ≤ m → staying π (staying π sessions now k) k m ≡ staying π sessions now m
    unfolding staying
    in-steps k m l n = steady-join π sessions (now + 1) (k + 1) (m + 1) (omega arith) (omega arith)

-- ---- an advance that is not refused
module _ (π : Policy) (σ : Service) (m : ℕ) (j : state_judged π.users σ ≡ 0) (forth : σ.now ≤ m) (early : m < E) where
  not-refused : state_judged π.users σ or_else call_judged π σ (advance m) ≡ 0
  unfolding call_judged advance_judged refuse ◌or_else◌
  not-refused = rw (j, lt-leb E m early, le-ltb m σ.now forth) refl

  advanced : machine_step π σ (advance m)
      ≡ record { outcome = given (closed (count (difference σ.«open» (staying π σ.«open» σ.now m)))); after = state m (staying π σ.«open» σ.now m) }
  unfolding machine_step step_by settled given_by left_by
  advanced = rw not-refused refl

module _ (π : Policy) (σ : Service) (k m : ℕ) (j : state_judged π.users σ ≡ 0) (forth : σ.now ≤ k) (on : k ≤ m) (early : m < E) where
  abbrev S : ℕ
  S = staying π σ.«open» σ.now k

  small : S < 2 ^ π.users
  unfolding staying
  small = steady-small π σ.«open» (σ.now + 1) (k + 1)

  state-fine : state_judged π.users (state k S) ≡ 0
  unfolding state_judged refuse
  state-fine = rw (lt-leb E k (omega arith), lt-leb (2 ^ π.users) S small) refl

  one-step : machine_step π σ (advance k) ≡ record { outcome = given (closed (count (difference σ.«open» S))); after = state k S }
  one-step = advanced π σ k j forth (omega arith)

  next : machine_step π (machine_step π σ (advance k)).after (advance m)
      ≡ record { outcome = given (closed (count (difference S (staying π S k m)))); after = state m (staying π S k m) }
  next = ap (λ (z : Step). machine_step π z.after (advance m)) one-step ∙ advanced π (state k S) m state-fine on early

  same : staying π S k m ≡ staying π σ.«open» σ.now m
  same = in-steps π σ.«open» σ.now k m forth on

  whole : machine_step π σ (advance m)
      ≡ record { outcome = given (closed (count (difference σ.«open» (staying π σ.«open» σ.now m)))); after = state m (staying π σ.«open» σ.now m) }
  whole = advanced π σ m j (omega arith) early

  sum : count (difference σ.«open» (staying π σ.«open» σ.now m)) ≡ count (difference σ.«open» S) + count (difference S (staying π S k m))
  sum =
      ap (λ (z : ℕ). count (difference σ.«open» z)) (sym same)
      ∙ count-steps σ.«open» S (staying π S k m) (λ i l. within π σ.«open» σ.now k i) (λ i l. within π S k m i)

  pub two_steps : TwoSteps π σ k m
  two_steps =
      record {
        first = count (difference σ.«open» S);
        second = count (difference S (staying π S k m));
        closes-first = ap (λ (z : Step). z.outcome) one-step;
        closes-second = ap (λ (z : Step). z.outcome) next;
        closes-both = ap (λ (z : Step). z.outcome) whole ∙ ap (λ (n : ℕ). given (closed n)) sum;
        leaves = ap (λ (z : Step). z.after) next ∙ ap (λ (n : ℕ). state m n) same ∙ sym (ap (λ (z : Step). z.after) whole);
      }
