-- Seniors and juniors: the test and the chains are one.
--     stay, step_in       a yes with no step, and with one more; back: stop-out, step-out
--     chain-in, chain-out a yes is a chain, and a chain a yes
--     falls, lower        a junior is below its senior, and so is what is reached
--     enough, enough-all  r steps from role r are enough, and as many as there are roles from any
--     more-steps          more change nothing
--     reaches-iff         a yes exactly when there is a chain
-- Assumes nothing.
use Prim.Native.Nat.{ℕ, zero, suc, ◌≤◌, ◌<◌}
use mathlib.Core.Path.{◌≡◌, refl, sym, ap, ◌∙◌, subst}
use mathlib.Core.Logic.{◌↔◌, ◌⊎◌, inl, inr, ⊎_elim}
use mathlib.Core.Bool.{Bool, true, ◌&&◌, ◌||◌, or-true}
use mathlib.Core.List.{List, Memᴰ}
use native.Mathlib.Nat.{not-suc-le-zero}
use native.Mathlib.Omega.{arith}
use lib.Dec.{eqb}
use borrow.Author.Tests.{eq-eqb, eqb-true}
use Rattle.ground.proofs.BoolLaws.{or_yes, or_left, and_yes, and_both, and-three, and-all, eq-ext}
use Rattle.ground.proofs.ListLaws.{some_in, some_out, all_in}
use Rattle.rota_pairs.specs.Hierarchy.{Pairing, PairsWell, reaches, Chain}

module _ (pairs : List Pairing) (enabled : ℕ → Bool) where
  -- role r is the senior of a pair with role j, and both are enabled
  pub record Link (r j : ℕ) : Type 0 where
    pub paired : Memᴰ (record { senior = r; junior = j }) pairs
    pub above : enabled r ≡ true
    pub below : enabled j ≡ true

  pub stay : (n r q : ℕ) → r ≡ q → reaches pairs enabled n r q ≡ true
  unfolding reaches
  stay zero r q e = eq-eqb r q e
  stay (suc n) r q e = or_left (eqb r q) _ (eq-eqb r q e)

  pub step_in : (n r j q : ℕ) → Link r j → reaches pairs enabled n j q ≡ true → reaches pairs enabled (suc n) r q ≡ true
  unfolding reaches
  step_in n r j q k h =
      ap (λ (b : Bool). eqb r q || b) (some_in _ k.paired (and_both _ _ (and-all _ _ _ (eq-eqb r r refl) k.above k.below) h)) ∙ or-true (eqb r q)

  -- a yes by a first step to the next role
  pub record Stepped (n r q : ℕ) : Type 0 where
    pub next : ℕ
    pub link : Link r next
    pub rest : reaches pairs enabled n next q ≡ true

  pub step-out : (n r q : ℕ) → reaches pairs enabled (suc n) r q ≡ true → (r ≡ q) ⊎ Stepped n r q
  unfolding reaches
  step-out n r q h = ⊎_elim (λ e. inl (eqb-true r q e)) (λ e. inr (by (some_out _ pairs e))) (or_yes (eqb r q) _ h)
    where
      by : (x : Pairing) × Memᴰ x pairs × ((eqb x.senior r && enabled r && enabled x.junior && reaches pairs enabled n x.junior q) ≡ true)
          → Stepped n r q
      by p =
          let x = p.0 in
          let a = and_yes _ _ p.2 in
          let b = and-three _ _ _ a.0 in
          record {
            next = x.junior;
            link = record {
              paired = subst (λ (s : ℕ). Memᴰ (record { senior = s; junior = x.junior }) pairs) (eqb-true x.senior r b.0) p.1;
              above = b.1;
              below = b.2;
            };
            rest = a.1;
          }

  pub stop-out : (r q : ℕ) → reaches pairs enabled 0 r q ≡ true → r ≡ q
  unfolding reaches
  stop-out r q h = eqb-true r q h

  -- ---- chains
  alone : (r q : ℕ) → r ≡ q → Chain pairs enabled r q
  alone r q e =
      record {
        steps = 0;
        role = λ i. r;
        first = refl;
        last = e;
        linked = λ i l. absurd (not-suc-le-zero l);
        each-enabled = λ l. absurd (not-suc-le-zero l);
      }

  -- role r, and then the roles of a chain
  abbrev upon : ℕ → (ℕ → ℕ) → ℕ → ℕ
  upon r role zero = r
  upon r role (suc i) = role i

  longer : (r j q : ℕ) → Link r j → Chain pairs enabled j q → Chain pairs enabled r q
  longer r j q k c = record { steps = suc c.steps; role = upon r c.role; first = refl; last = c.last; linked = linked; each-enabled = λ l. on }
    where
      linked : (i : ℕ) → i < suc c.steps → Memᴰ (record { senior = upon r c.role i; junior = c.role i }) pairs
      linked zero l = subst (λ (x : ℕ). Memᴰ (record { senior = r; junior = x }) pairs) (sym c.first) k.paired
      linked (suc i) l = c.linked i (omega arith)

      on : (i : ℕ) → i ≤ suc c.steps → enabled (upon r c.role i) ≡ true
      on zero l = k.above
      on (suc zero) l = ap enabled c.first ∙ k.below
      on (suc (suc i)) l = c.each-enabled (omega arith) (suc i) (omega arith)

  pub chain-in : (n r q : ℕ) → reaches pairs enabled n r q ≡ true → Chain pairs enabled r q
  chain-in zero r q h = alone r q (stop-out r q h)
  chain-in (suc n) r q h =
      ⊎_elim (alone r q) (λ (s : Stepped n r q). longer r s.next q s.link (chain-in n s.next q s.rest)) (step-out n r q h)

  down : (n : ℕ) (role : ℕ → ℕ) → ((i : ℕ) → i < n → Memᴰ (record { senior = role i; junior = role (suc i) }) pairs)
      → (0 < n → (i : ℕ) → i ≤ n → enabled (role i) ≡ true) → reaches pairs enabled n (role 0) (role n) ≡ true
  down zero role linked on = stay 0 (role 0) (role 0) refl
  down (suc n) role linked on =
      step_in n (role 0) (role 1) (role (suc n))
      (record { paired = linked 0 (omega arith); above = on (omega arith) 0 (omega arith); below = on (omega arith) 1 (omega arith) })
      (down n (λ i. role (suc i)) (λ i l. linked (suc i) (omega arith)) (λ l i m. on (omega arith) (suc i) (omega arith)))

  pub chain-out : (r q : ℕ) (c : Chain pairs enabled r q) → reaches pairs enabled c.steps r q ≡ true
  chain-out r q c = rw (← c.first, ← c.last) (down c.steps c.role c.linked c.each-enabled)

  -- ---- numbers fall, so that few steps are enough
  module _ (R : ℕ) (w : PairsWell R pairs) where
    pub falls : (r j : ℕ) → Memᴰ (record { senior = r; junior = j }) pairs → (j < r) × (r < R)
    falls r j m = all_in (λ (x : Pairing). (x.junior < x.senior) × (x.senior < R)) pairs w m

    pub enough : (n m r q : ℕ) → r ≤ m → reaches pairs enabled n r q ≡ true → reaches pairs enabled m r q ≡ true
    enough zero m r q l h = stay m r q (stop-out r q h)
    enough (suc n) zero r q l h =
        ⊎_elim (stay zero r q) (λ (s : Stepped n r q). absurd (omega (arith, (falls r s.next s.link.paired).0))) (step-out n r q h)
    enough (suc n) (suc m) r q l h =
        ⊎_elim
        (stay (suc m) r q)
        (λ (s : Stepped n r q). step_in m r s.next q s.link (enough n m s.next q (omega (arith, (falls r s.next s.link.paired).0)) s.rest))
        (step-out n r q h)

    pub enough-all : (n m r q : ℕ) → R ≤ m → reaches pairs enabled n r q ≡ true → reaches pairs enabled m r q ≡ true
    enough-all zero m r q l h = stay m r q (stop-out r q h)
    enough-all (suc n) m r q l h =
        ⊎_elim
        (stay m r q)
        (λ (s : Stepped n r q). enough (suc n) m r q (omega (arith, (falls r s.next s.link.paired).1)) h)
        (step-out n r q h)

    -- what is reached is not above
    pub lower : (n r q : ℕ) → reaches pairs enabled n r q ≡ true → q ≤ r
    lower zero r q h = omega (arith, stop-out r q h)
    lower (suc n) r q h =
        ⊎_elim
        (λ (e : r ≡ q). omega arith)
        (λ (s : Stepped n r q). omega (arith, (falls r s.next s.link.paired).0, lower n s.next q s.rest))
        (step-out n r q h)

    pub more-steps : (m r q : ℕ) → R ≤ m → reaches pairs enabled m r q ≡ reaches pairs enabled R r q
    more-steps m r q l = eq-ext _ _ (enough-all m R r q (omega arith)) (enough-all R m r q l)

    pub reaches-iff : (r q : ℕ) → (reaches pairs enabled R r q ≡ true) ↔ Chain pairs enabled r q
    reaches-iff r q = (chain-in R r q, λ c. enough-all c.steps R r q (omega arith) (chain-out r q c))
