-- The parts of the calls, by the test at which each ends.
-- Assumes nothing.
use Prim.Native.Nat.{ℕ, zero, suc, ◌^◌, ◌<◌, ◌≤◌}
use mathlib.Core.Path.{◌≡◌, refl, sym, ap, ◌∙◌}
use mathlib.Core.Bool.{Bool, true, false}
use borrow.Author.Tests.{le-leb, lt-leb, ltb-true, ltb-false, leb-false}
use lib.Dec.{leb, ltb}
use Rattle.ground.specs.Believed.Judgement.{refuse, ◌or_else◌}
use Rattle.ground.specs.Believed.Outcome.{refused, given}
use Rattle.ground.proofs.BoolLaws.{or_no}
use Rattle.ground.proofs.JudgementLaws.{or_else-ne, or_else-zero, refuse-no}
use Rattle.bitset.specs.Believed.Sets.{has, difference, count}
use Rattle.minutes.specs.Believed.Minutes.{E}
use Rattle.machine.specs.Believed.Machine.{Gift, closed, state, state_judged, advance_judged, open_judged, close_judged, ask_judged, settled}
use Rattle.machine.specs.Core.{moved_step}
use Rattle.machine.specs.declared.Service.{Service}

-- a first judgement n that refuses; one that does not, before b
pub first : (n a b : ℕ) → n ≡ a → (n ≡ 0 → ⊥) → n ≡ a or_else b
first n a b e h = e ∙ sym (or_else-ne a b (λ z. h (e ∙ z)))

pub onward : (n a b m : ℕ) → n ≡ a → n ≡ 0 → m ≡ b → m ≡ a or_else b
unfolding ◌or_else◌
onward n a b m e z h = rw (← e, z) h

-- 40
module _ (users : ℕ) (σ : Service) where
  pub state-late : E ≤ σ.now → 40 ≡ state_judged users σ
  unfolding state_judged refuse
  state-late h = rw (le-leb E σ.now h) refl

  module _ (early : σ.now < E) (b : Bool) (eb : b ≡ ltb σ.«open» (2 ^ users)) where
    pub state-fine : b ≡ true → 0 ≡ state_judged users σ
    unfolding state_judged refuse
    state-fine t = rw (lt-leb E σ.now early, lt-leb (2 ^ users) σ.«open» (ltb-true _ _ (sym eb ∙ t))) refl

    pub state-over : b ≡ false → 40 ≡ state_judged users σ
    unfolding state_judged refuse
    state-over t = rw (lt-leb E σ.now early, le-leb (2 ^ users) σ.«open» (ltb-false _ _ (sym eb ∙ t))) refl

  pub state-early : (n : ℕ) → n ≡ state_judged users σ → n ≡ 0 → σ.now < E
  unfolding state_judged
  state-early n e z = leb-false E σ.now (or_no _ _ (refuse-no 39 _ (sym e ∙ z))).0

  -- what the judgements of calls that are not refused tell
  pub advance-early : (m n : ℕ) → n ≡ state_judged users σ or_else advance_judged σ m → n ≡ 0 → m < E
  unfolding advance_judged
  advance-early m n e z = leb-false E m (refuse-no 32 _ (or_else-zero _ _ (or_else-zero (state_judged users σ) _ (sym e ∙ z)).1).0)

  pub advance-forth : (m n : ℕ) → n ≡ state_judged users σ or_else advance_judged σ m → n ≡ 0 → σ.now ≤ m
  unfolding advance_judged
  advance-forth m n e z = ltb-false m σ.now (refuse-no 40 _ (or_else-zero _ _ (or_else-zero (state_judged users σ) _ (sym e ∙ z)).1).1)

  pub advance-open : (m n : ℕ) → n ≡ state_judged users σ or_else advance_judged σ m → n ≡ 0 → σ.«open» < 2 ^ users
  unfolding state_judged
  advance-open m n e z = leb-false (2 ^ users) σ.«open» (or_no (leb E σ.now) (leb (2 ^ users) σ.«open») (refuse-no 39 _ (or_else-zero _ _ (sym e ∙ z)).0)).1

  pub close-inside : (u n : ℕ) → n ≡ state_judged users σ or_else close_judged users σ u → n ≡ 0 → u < users
  unfolding close_judged
  close-inside u n e z = leb-false users u (refuse-no 33 _ (or_else-zero _ _ (or_else-zero (state_judged users σ) _ (sym e ∙ z)).1).0)

  pub open-inside : (holders u n : ℕ) → n ≡ open_judged users (has holders u) σ u → n ≡ 0 → u < users
  unfolding open_judged
  open-inside holders u n e z = leb-false users u (refuse-no 33 _ (or_else-zero _ _ (sym e ∙ z)).0)

  module _ (permissions u p n : ℕ) (e : n ≡ state_judged users σ or_else ask_judged users permissions σ u p) (z : n ≡ 0) where
    pub ask-early : σ.now < E
    ask-early = state-early 0 (sym (or_else-zero (state_judged users σ) _ (sym e ∙ z)).0) refl

    pub ask-inside : (u < users) × (p < permissions)
    unfolding ask_judged
    ask-inside =
        let a = or_else-zero (refuse 34 (leb users u)) _ (or_else-zero (state_judged users σ) _ (sym e ∙ z)).1 in
        let b = or_else-zero (refuse 35 (leb permissions p)) _ a.1 in
        (leb-false users u (refuse-no 33 _ a.0), leb-false permissions p (refuse-no 34 _ b.0))

-- what a call leaves by its judgement
module _ (j : ℕ) (g : Gift) (τ σ : Service) where
  pub settled-refused : (n : ℕ) → n ≡ j → (n ≡ 0 → ⊥) → record { outcome = refused n; after = σ } ≡ settled j g τ σ
  unfolding settled
  settled-refused n e h = go n h ∙ ap (λ (k : ℕ). settled k g τ σ) e
    where
      go : (k : ℕ) → (k ≡ 0 → ⊥) → record { outcome = refused k; after = σ } ≡ settled k g τ σ
      go zero w = absurd (w refl)
      go (suc k) w = refl

  pub settled-given : (n : ℕ) → n ≡ j → n ≡ 0 → record { outcome = given g; after = τ } ≡ settled j g τ σ
  unfolding settled
  settled-given n e z = rw (← e, z) refl

-- a state whose set is known by another name
pub settled-as : (j n now x y : ℕ) (g : Gift) (σ : Service) → x ≡ y → n ≡ j → n ≡ 0 → record { outcome = given g; after = state now x } ≡ settled j g (state now y) σ
settled-as j n now x y g σ e q z = ap (λ (a : ℕ). record { outcome = given g; after = state now a }) e ∙ settled-given j g (state now y) σ n q z

pub moved_as : (stays : ℕ) (σ : Service) (m n : ℕ) → n ≡ count (difference σ.«open» stays)
    → record { outcome = given (closed n); after = state m stays } ≡ moved_step stays σ m
unfolding moved_step
moved_as stays σ m n en = rw en refl
