-- Laws of judgements, one for each way that a reader's loop can go.
--     turns-none, turns_more, turns-stop, turns-refused   before the first turn; a turn that refuses nothing; the first that refuses
--     turns-all, turns-clear               where nothing is refused no turn refuses, and the other way round
--     turns-any                            turns that share one refusal: it is given where some turn refuses
--     turns_same                           turns that refuse the same
--     or_else-ne, or_else-zero, or_else-none  a first judgement that refuses; both judgements where nothing is refused; a second that refuses nothing
--     refuse-yes, refuse-none, refuse-no   a rule whose test holds, or fails; the test of a rule that does not refuse
-- Assumes nothing.
use Prim.Native.Nat.{ℕ, zero, suc, ◌+◌, ◌<◌}
use mathlib.Core.Path.{◌≡◌, refl, ap, ap₂, ◌∙◌}
use mathlib.Core.Logic.{⊎_elim}
use mathlib.Core.Bool.{Bool, true, false, ◌||◌}
use native.Mathlib.Nat.{not-suc-le-zero, le_of_suc-le-suc, eq-or-lt_of_le, le_refl, lt_trans}
use native.Mathlib.Numerals.{add-one}
use native.Mathlib.Omega.{arith}
use lib.Dec.{eqb}
use borrow.Author.Tests.{eq-eqb, ne_eqb, lt-ltb, le-ltb, le-leb, lt-leb, eqb-false}
use Rattle.ground.specs.Believed.Judgement.{refuse, ◌or_else◌, in_turn}
use Rattle.ground.specs.Believed.Search.{any_below}

-- what `search` is handed to settle a test of a judgement from the branch that was taken
pub ruleset tests = (eq-eqb, ne_eqb, lt-ltb, le-ltb, le-leb, lt-leb)

pub or_else-ne : (a b : ℕ) → (a ≡ 0 → ⊥) → a or_else b ≡ a
unfolding ◌or_else◌
or_else-ne zero b h = absurd (h refl)
or_else-ne (suc a) b h = refl

pub or_else-zero : (a b : ℕ) → a or_else b ≡ 0 → (a ≡ 0) × (b ≡ 0)
unfolding ◌or_else◌
or_else-zero zero b h = (refl, h)
or_else-zero (suc a) b h = absurd (omega arith)

pub or_else-none : (a : ℕ) → a or_else 0 ≡ a
unfolding ◌or_else◌
or_else-none zero = refl
or_else-none (suc a) = refl

pub refuse-no : (k : ℕ) (b : Bool) → refuse (suc k) b ≡ 0 → b ≡ false
unfolding refuse
refuse-no k true h = absurd (omega arith)
refuse-no k false h = refl

pub refuse-yes : (n : ℕ) (b : Bool) → b ≡ true → refuse n b ≡ n
unfolding refuse
refuse-yes n b e = rw e refl

pub refuse-none : (n : ℕ) (b : Bool) → b ≡ false → refuse n b ≡ 0
unfolding refuse
refuse-none n b e = rw e refl

-- a number whose test for 0 fails
pub pos_of : (n : ℕ) → eqb n 0 ≡ false → 0 < n
pos_of n h = omega (arith, eqb-false n 0 h)

module _ (f : ℕ → ℕ) where
  pub turns-none : in_turn f 0 ≡ 0
  unfolding in_turn ◌or_else◌
  turns-none = refl

  pub turns_more : (i : ℕ) → in_turn f i ≡ 0 → f i ≡ 0 → in_turn f (i + 1) ≡ 0
  unfolding in_turn ◌or_else◌
  turns_more i h k = rw (add-one i) (rw h k)

  pub turns-stop : (n i : ℕ) → i < n → in_turn f i ≡ 0 → (f i ≡ 0 → ⊥) → in_turn f n ≡ f i
  unfolding in_turn ◌or_else◌
  turns-stop zero i l h k = absurd (not-suc-le-zero l)
  turns-stop (suc n) i l h k =
      ⊎_elim
      (λ (e : i ≡ n). rw (← e) (rw h refl))
      (λ (m : i < n). rw (turns-stop n i m h k) (or_else-ne (f i) (f n) k))
      (eq-or-lt_of_le (le_of_suc-le-suc l))

  -- the same where the refusal's number is known
  pub turns-refused : (n i m : ℕ) → 0 < m → i < n → in_turn f i ≡ 0 → f i ≡ m → in_turn f n ≡ m
  turns-refused n i m p l h e = turns-stop n i l h (λ z. absurd (omega arith)) ∙ e

  pub turns-all : (n i : ℕ) → i < n → in_turn f n ≡ 0 → f i ≡ 0
  unfolding in_turn ◌or_else◌
  turns-all zero i l h = absurd (not-suc-le-zero l)
  turns-all (suc n) i l h =
      ⊎_elim
      (λ (e : i ≡ n). rw e (or_else-zero (in_turn f n) (f n) h).1)
      (λ (m : i < n). turns-all n i m (or_else-zero (in_turn f n) (f n) h).0)
      (eq-or-lt_of_le (le_of_suc-le-suc l))

  pub turns-clear : (n : ℕ) → ((i : ℕ) → i < n → f i ≡ 0) → in_turn f n ≡ 0
  unfolding in_turn ◌or_else◌
  turns-clear zero h = refl
  turns-clear (suc n) h = rw (turns-clear n (λ i l. h i (lt_trans l (le_refl (suc n))))) (h n (le_refl (suc n)))

pub turns_same : (n : ℕ) (f g : ℕ → ℕ) → ((i : ℕ) → i < n → f i ≡ g i) → in_turn f n ≡ in_turn g n
unfolding in_turn
turns_same zero f g h = refl
turns_same (suc n) f g h = ap₂ ◌or_else◌ (turns_same n f g (λ i l. h i (lt_trans l (le_refl (suc n))))) (h n (le_refl (suc n)))

pub turns-any : (n : ℕ) (f : ℕ → Bool) (m : ℕ) → in_turn (λ k. refuse n (f k)) m ≡ refuse n (any_below m f)
unfolding in_turn any_below refuse
turns-any n f zero = refl
turns-any n f (suc m) = ap (λ (a : ℕ). a or_else refuse n (f m)) (turns-any n f m) ∙ either n (any_below m f) (f m)
  where
    either : (n : ℕ) (a b : Bool) → refuse n a or_else refuse n b ≡ refuse n (a || b)
    either zero true true = unfold refuse ◌or_else◌ in refl
    either zero true false = unfold refuse ◌or_else◌ in refl
    either (suc n) true b = unfold refuse ◌or_else◌ in refl
    either n false b = unfold refuse ◌or_else◌ in refl
