-- Who holds a permission throughout a stretch of minutes.
--     steady-all                    with no minute it is everyone of the set
--     steady-join, steady-more      two stretches, one after the other
--     steady-over                   nobody is left
--     steady-small                  the set by its members
--     steady-one, steady-everyone   one minute
--     holder                        whether one is among those who hold a permission
--     swept_none, swept-more        a sweep, step by step
--     swept_all                     where it has passed a whole cycle, what goes by the cycle is known
--     swept-over                    nobody is left in it
-- Assumes nothing.
use Prim.Native.Nat.{ℕ, ◌+◌, ◌^◌, ◌≤◌, ◌<◌, min}
use mathlib.Core.Path.{◌≡◌, refl, sym, ap, ◌∙◌}
use mathlib.Core.Logic.{⊎_elim}
use mathlib.Core.Bool.{Bool, true, false, not, ◌&&◌}
use native.Mathlib.Nat.{le_refl}
use native.Mathlib.Omega.{arith}
use borrow.Author.Tests.{le-leb, leb-true, not-true}
use lib.Dec.{leb}
use lib.Pow.{pow_pos}
use Rattle.ground.proofs.BoolLaws.{and_yes, and_both, eq-ext, clash, lt-or-le}
use Rattle.ground.proofs.SearchLaws.{any-no, any-none-of}
use Rattle.bitset.specs.Believed.Sets.{has, set_of, intersection}
use Rattle.bitset.proofs.SetLaws.{set_of-has, set_of-lt, has-below, has-none, has-not, intersection-of}
use Rattle.minutes.specs.Lasting.{Lasting}
use Rattle.minutes.proofs.LastingLaws.{lasting-at, lasting-shorter, lasting-on, lasting-turned}
use Rattle.policy.specs.Believed.Policy.{Policy, holds_any, holders_at}
use Rattle.policy.specs.Believed.Steady.{lapses, steady_over}
use Rattle.policy.specs.Held.{HeldAmong}

module _ (π : Policy) where
  -- user u holds a permission at each minute from a to before b
  abbrev Throughout : ℕ → ℕ → ℕ → Type 0
  Throughout a b u = (v : ℕ) → a ≤ v → v < b → holds_any π v u ≡ true

  no-lapse : (a b u : ℕ) → not (lapses π a b u) ≡ true → Throughout a b u
  unfolding lapses
  no-lapse a b u h v l m = go (any-no b _ (not-true _ h) v m) (holds_any π v u) refl
    where
      go : (leb a v && not (holds_any π v u)) ≡ false → (c : Bool) → holds_any π v u ≡ c → c ≡ true
      go e true w = refl
      go e false w = clash _ (and_both _ _ (le-leb a v l) (ap not w)) e

  lapse-none : (a b u : ℕ) → Throughout a b u → not (lapses π a b u) ≡ true
  unfolding lapses
  lapse-none a b u h = ap not (any-none-of b _ (λ v m. go v m (leb a v) refl))
    where
      go : (v : ℕ) → v < b → (c : Bool) → leb a v ≡ c → (leb a v && not (holds_any π v u)) ≡ false
      go v m false e = rw e refl
      go v m true e = rw (e, h v (leb-true a v e) m) refl

  -- the set by its members
  pub steady-small : (among a b : ℕ) → steady_over π among a b < 2 ^ π.users
  unfolding steady_over
  steady-small among a b = set_of-lt π.users _

  pub steady-out : (among a b u : ℕ) → u < π.users → has (steady_over π among a b) u ≡ true → (has among u ≡ true) × Throughout a b u
  unfolding steady_over
  steady-out among a b u l h = let p = and_yes _ _ (sym (has-below π.users _ u l) ∙ h) in (p.0, no-lapse a b u p.1)

  steady-is : (among a b x : ℕ) → x < 2 ^ π.users → ((u : ℕ) → u < π.users → has x u ≡ true → (has among u ≡ true) × Throughout a b u)
      → ((u : ℕ) → u < π.users → has among u ≡ true → Throughout a b u → has x u ≡ true) → x ≡ steady_over π among a b
  unfolding steady_over
  steady-is among a b x small only all =
      set_of-has π.users x _ small
      (λ u l. eq-ext _ _ (λ h. let p = only u l h in and_both _ _ p.0 (lapse-none a b u p.1))
      (λ h. let p = and_yes _ _ h in all u l p.0 (no-lapse a b u p.1)))

  pub steady-in : (among a b u : ℕ) → u < π.users → has among u ≡ true → Throughout a b u → has (steady_over π among a b) u ≡ true
  unfolding steady_over
  steady-in among a b u l h k = has-below π.users _ u l ∙ and_both _ _ h (lapse-none a b u k)

  pub steady-all : (among a b : ℕ) → b ≤ a → among < 2 ^ π.users → among ≡ steady_over π among a b
  steady-all among a b l small = steady-is among a b among small (λ u m h. (h, λ v p q. absurd (omega arith))) (λ u m h k. h)

  pub steady-join : (among a x b : ℕ) → a ≤ x → x ≤ b → steady_over π (steady_over π among a x) x b ≡ steady_over π among a b
  steady-join among a x b l m =
      steady-is among a b _ (steady-small _ x b)
      (λ u k h. let p = steady-out _ x b u k h in let q = steady-out among a x u k p.0 in
      (q.0, λ v y z. ⊎_elim (λ (d : v < x). q.1 v y d) (λ (d : x ≤ v). p.1 v d z) (lt-or-le v x)))
      (λ u k h g. steady-in _ x b u k (steady-in among a x u k h (λ v y z. g v y (omega arith))) (λ v y z. g v (omega arith) z))

  pub steady-more : (among a x b : ℕ) {stays r : ℕ} → a ≤ x → x ≤ b → stays ≡ steady_over π among a x → r ≡ steady_over π stays x b
      → r ≡ steady_over π among a b
  steady-more among a x b l m es er = er ∙ ap (λ (y : ℕ). steady_over π y x b) es ∙ steady-join among a x b l m

  -- nobody is left at x
  pub steady-over : (among a x b : ℕ) {stays : ℕ} → a ≤ x → x ≤ b → stays ≡ steady_over π among a x → stays ≡ 0 → 0 ≡ steady_over π among a b
  steady-over among a x b l m es e =
      steady-more among a x b l m (sym e ∙ es) (steady-is 0 x b 0 (pow_pos π.users) (λ u k h. clash _ h (has-none u)) (λ u k h g. h))

  pub holder : (v u : ℕ) → u < π.users → has (holders_at π v) u ≡ holds_any π v u
  unfolding holders_at
  holder v u l = has-below π.users (holds_any π v) u l

  held_of : (few : π.users ≤ 64) (x v : ℕ) → intersection x (holders_at π v) ≡ set_of π.users (λ u. has x u && holds_any π v u)
  unfolding holders_at
  held_of few x v = intersection-of π.users x (holds_any π v) few

  -- one minute
  pub steady-one : π.users ≤ 64 → (among a b : ℕ) {x : ℕ} → b ≡ a + 1 → x ≡ intersection among (holders_at π a) → x ≡ steady_over π among a b
  steady-one few among a b {x} eb e =
      steady-is among a b x (rw set_is (set_of-lt π.users _))
      (λ u l h. let p = and_yes (has among u) (holds_any π a u) (sym (both u l) ∙ h) in
      (p.0, λ v y z. let w : v ≡ a = omega arith in rw w p.1))
      (λ u l h g. both u l ∙ and_both _ _ h (g a (le_refl a) (omega arith)))
    where
      set_is : x ≡ set_of π.users (λ u. has among u && holds_any π a u)
      set_is = e ∙ held_of few among a

      both : (u : ℕ) → u < π.users → has x u ≡ (has among u && holds_any π a u)
      both u l = ap (λ (z : ℕ). has z u) set_is ∙ has-below π.users _ u l

  -- of everyone, those who hold a permission at a minute
  pub steady-everyone : π.users ≤ 64 → (a : ℕ) {x : ℕ} → x ≡ steady_over π 18446744073709551615 a (a + 1) → x ≡ holders_at π a
  unfolding holders_at
  steady-everyone few a e =
      e ∙ sym (steady-is 18446744073709551615 a (a + 1) _ (set_of-lt π.users (holds_any π a))
      (λ u l h. (has-not 64 0 u (pow_pos 64) (omega arith) ∙ ap not (has-none u), λ v y z. let w : v ≡ a = omega arith in rw w (sym (has-below π.users (holds_any π a) u l) ∙ h)))
      (λ u l h g. has-below π.users (holds_any π a) u l ∙ g a (le_refl a) (omega arith)))

  -- ---- a sweep from x on that has come to y: `stays` are left of `among`, and what was seen goes by the cycle to before e
  pub record Swept (c among x y e stays : ℕ) : Type 0 where
    pub from : x ≤ y
    pub some : x < e
    pub is : stays ≡ steady_over π among x (min y e)
    pub lasts : (u : ℕ) → u < π.users → has stays u ≡ true → Lasting (λ v. holds_any π v u) c x y e

  pub swept_none : (c among x b : ℕ) → x < b → among < 2 ^ π.users → Swept c among x x b among
  swept_none c among x b l small =
      record {
        from = le_refl x;
        some = l;
        is = steady-all among x (min x b) (omega arith) small;
        lasts = λ u m h. record { each = λ v k p q r. absurd (omega arith) };
      }

  module _ {c among x y e stays : ℕ} (w : Swept c among x y e stays) where
    pub swept-more : π.users ≤ 64 → {set until era e' : ℕ} → y < e → HeldAmong π c stays y set until era → e' ≡ min e era
        → Swept c among x until e' set
    swept-more few {set} {until} {era} {e'} l h ee =
        record {
          from = omega (arith, w.from, h.after);
          some = omega (arith, w.from, h.longer);
          is =
              steady-is among x (min until e') set small
              (λ u m k. ((steady-out among x (min y e) u m (left u m k)).0, λ v p q. lasting-at (last u m k) v p (omega arith) (omega arith)))
              (λ u m k g. stay u m (steady-in among x (min y e) u m k (λ v p q. g v p (omega (arith, h.after, h.longer)))) (g y w.from (omega (arith, h.after, h.longer))));
          lasts = last;
        }
      where
        set_is : set ≡ set_of π.users (λ u. has stays u && holds_any π y u)
        set_is = h.is ∙ held_of few stays y

        small : set < 2 ^ π.users
        small = rw set_is (set_of-lt π.users _)

        both : (u : ℕ) → u < π.users → has set u ≡ (has stays u && holds_any π y u)
        both u m = ap (λ (z : ℕ). has z u) set_is ∙ has-below π.users _ u m

        kept : (u : ℕ) → u < π.users → has set u ≡ true → has stays u ≡ true
        kept u m k = (and_yes (has stays u) (holds_any π y u) (sym (both u m) ∙ k)).0

        left : (u : ℕ) → u < π.users → has set u ≡ true → has (steady_over π among x (min y e)) u ≡ true
        left u m k = ap (λ (z : ℕ). has z u) (sym w.is) ∙ kept u m k

        stay : (u : ℕ) → u < π.users → has (steady_over π among x (min y e)) u ≡ true → holds_any π y u ≡ true → has set u ≡ true
        stay u m k g = both u m ∙ and_both _ _ (ap (λ (z : ℕ). has z u) w.is ∙ k) g

        last : (u : ℕ) → u < π.users → has set u ≡ true → Lasting (λ v. holds_any π v u) c x until e'
        last u m k = lasting-on (lasting-shorter (w.lasts u m (kept u m k)) (le_refl x) (le_refl y) (omega arith))
            (lasting-shorter (h.lasts u m k) (le_refl y) (le_refl until) (omega arith)) (le_refl e')

    -- a whole cycle, or all that goes by the cycle
    pub swept_all : 0 < c → min e (x + c) ≤ y → stays ≡ steady_over π among x e
    swept_all pos l =
        ⊎_elim
        (λ (b : y < e).
        w.is
        ∙ steady-is among x e _ (steady-small among x (min y e))
        (λ u m k. (
          (steady-out among x (min y e) u m k).0,
          λ v p q. lasting-turned (w.lasts u m (ap (λ (z : ℕ). has z u) w.is ∙ k)) pos (omega arith) v p q,
        ))
        (λ u m k g. steady-in among x (min y e) u m k (λ v p q. g v p (omega arith))))
        (λ (b : e ≤ y). let z : min y e ≡ e = omega arith in rw z at w.is)
        (lt-or-le y e)

    -- nobody is left
    pub swept-over : (b : ℕ) → e ≤ b → stays ≡ 0 → 0 ≡ steady_over π among x b
    swept-over b l z = steady-over among x (min y e) b (omega (arith, w.from, w.some)) (omega arith) w.is z
