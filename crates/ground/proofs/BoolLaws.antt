-- Tests as facts: `T b` is the fact that the test b holds.
--     and_l, and_r, and_in, and_yes, and_left, and_right, and-three, and_both, and-all, and-swap     the parts of a conjunction
--     or_yes, or_no, not_yes            a side of a disjunction that holds; both sides of one that fails; a test that does not hold
--     leb-not, lt-or-le, by-ltb         comparisons the other way round, and as a choice
--     T→eq, eq→T, T-ext, eq-ext         a fact is an equation with true; two tests that imply one another are equal
--     ltb_iff, eqb-sym                  two comparisons that imply one another; an equality the other way round
--     pick_true, pick-false             a choice whose test is known
-- Assumes nothing.
use mathlib.Core.Path.{◌≡◌, refl, sym, subst}
use mathlib.Core.Bool.{Bool, true, false, not, ◌&&◌, ◌||◌}
use Prim.Native.Nat.{ℕ, ◌≤◌, ◌<◌}
use mathlib.Core.Logic.{◌⊎◌, inl, inr}
use borrow.Author.Tests.{ltb-true, ltb-false, lt-leb, le-leb, eq-eqb}
use native.Mathlib.Omega.{arith}
use lib.Dec.{T, leb, ltb, eqb, ltb→lt, lt→ltb, eqb→eq}
use Rattle.ground.specs.Believed.Choice.{pick}

pub and_l : (a b : Bool) → T (a && b) → T a
and_l true b t = tt
and_l false b t = t

pub and_r : (a b : Bool) → T (a && b) → T b
and_r true b t = t
and_r false b t = absurd t

pub and_in : (a b : Bool) → T a → T b → T (a && b)
and_in true b s t = t
and_in false b s t = s

pub or_yes : (a b : Bool) → (a || b) ≡ true → (a ≡ true) ⊎ (b ≡ true)
or_yes true b h = inl refl
or_yes false b h = inr h

pub not_yes : (b : Bool) → (b ≡ true → ⊥) → b ≡ false
not_yes true h = absurd (h refl)
not_yes false h = refl

-- the second of two does not count, or alone does
pub or_left : (a b : Bool) → a ≡ true → (a || b) ≡ true
or_left a b e = rw e refl

pub or-skip : (a b : Bool) → a ≡ false → (a || b) ≡ b
or-skip a b e = rw e refl

pub or_no : (a b : Bool) → (a || b) ≡ false → (a ≡ false) × (b ≡ false)
or_no true b h = (h, (cc))
or_no false b h = (refl, h)

pub and_yes : (a b : Bool) → (a && b) ≡ true → (a ≡ true) × (b ≡ true)
and_yes true b h = (refl, h)
and_yes false b h = (h, (cc))

pub T→eq : (b : Bool) → T b → b ≡ true
T→eq true t = refl
T→eq false t = absurd t

pub eq→T : (b : Bool) → b ≡ true → T b
eq→T true e = tt
eq→T false e = subst T (sym e) tt

pub T-ext : (a b : Bool) → (T a → T b) → (T b → T a) → a ≡ b
T-ext true true f g = refl
T-ext true false f g = absurd (f tt)
T-ext false true f g = absurd (g tt)
T-ext false false f g = refl

pub eq-ext : (a b : Bool) → (a ≡ true → b ≡ true) → (b ≡ true → a ≡ true) → a ≡ b
eq-ext true b f g = sym (f refl)
eq-ext false true f g = g refl
eq-ext false false f g = refl

-- a test with both answers
pub clash {ℓ} : {A : Type ℓ} (b : Bool) → b ≡ true → b ≡ false → A
clash b g h = let z : ◌≡◌ {A = ℕ} 0 1 = cc in absurd (omega arith)

-- the last two of three tests, the other way round
pub and-swap : (a b c : Bool) → (a && b && c) ≡ (a && c && b)
and-swap true true true = refl
and-swap true true false = refl
and-swap true false true = refl
and-swap true false false = refl
and-swap false b c = refl

pub and_both : (a b : Bool) → a ≡ true → b ≡ true → (a && b) ≡ true
and_both a b p q = rw (p, q) refl

pub and-three : (a b c : Bool) → (a && b && c) ≡ true → (a ≡ true) × (b ≡ true) × (c ≡ true)
and-three a b c h = let p = and_yes (a && b) c h in let q = and_yes a b p.0 in (q.0, q.1, p.1)

pub and-all : (a b c : Bool) → a ≡ true → b ≡ true → c ≡ true → (a && b && c) ≡ true
and-all a b c p q r = rw (p, q, r) refl

pub ltb_iff : (a b c d : ℕ) → (a < b → c < d) → (c < d → a < b) → ltb a b ≡ ltb c d
ltb_iff a b c d f g = T-ext (ltb a b) (ltb c d) (λ h. lt→ltb c d (f (ltb→lt a b h))) (λ h. lt→ltb a b (g (ltb→lt c d h)))

pub eqb-sym : (a b : ℕ) → eqb a b ≡ eqb b a
eqb-sym a b = T-ext (eqb a b) (eqb b a) (flip a b) (flip b a)
  where
    flip : (a b : ℕ) → T (eqb a b) → T (eqb b a)
    flip a b h = eq→T _ (eq-eqb b a (sym (eqb→eq a b h)))

-- b ≤ a is not a < b, and one of the two holds
pub leb-not : (a b : ℕ) → leb b a ≡ not (ltb a b)
leb-not a b = go (ltb a b) refl
  where
    go : (t : Bool) → ltb a b ≡ t → leb b a ≡ not t
    go true e = lt-leb b a (ltb-true a b e)
    go false e = le-leb b a (ltb-false a b e)

pub lt-or-le : (a b : ℕ) → (a < b) ⊎ (b ≤ a)
lt-or-le a b = go (ltb a b) refl
  where
    go : (t : Bool) → ltb a b ≡ t → (a < b) ⊎ (b ≤ a)
    go true e = inl (ltb-true a b e)
    go false e = inr (ltb-false a b e)

module _ {ℓ} {A : Type ℓ} (b : Bool) (x y : A) where
  pub pick_true : b ≡ true → pick b x y ≡ x
  pick_true e = rw e

  pub pick-false : b ≡ false → pick b x y ≡ y
  pick-false e = rw e

-- a comparison is one of its two answers, with what it says
pub by-ltb {ℓ} : (P : Bool → Type ℓ) (a b : ℕ) → (a < b → P true) → (b ≤ a → P false) → P (ltb a b)
by-ltb P a b f g = go (ltb a b) refl
  where
    go : (c : Bool) → ltb a b ≡ c → P c
    go true e = f (ltb-true a b e)
    go false e = g (ltb-false a b e)

pub and_left : (a b : Bool) → (a && b) ≡ true → a ≡ true
and_left true b h = refl
and_left false b h = h

pub and_right : (a b : Bool) → (a && b) ≡ true → b ≡ true
and_right true b h = h
and_right false b h = cc
