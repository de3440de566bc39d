-- What is handed down from role r, where r is enabled, are the roles that it reaches.
--     handed-is     role by role, by the test
--     handed-set    as a set
--     handed-iff    by chains
-- Assumes nothing.
use Prim.Native.Nat.{ℕ, zero, suc, ◌+◌, ◌^◌, ◌≤◌, ◌<◌}
use mathlib.Core.Path.{◌≡◌, refl, sym, ap, ◌∙◌, subst}
use mathlib.Core.Logic.{◌↔◌, ◌⊎◌, inl, inr, ⊎_elim}
use mathlib.Core.Bool.{Bool, true, false, ◌&&◌, ◌||◌, or-true}
use mathlib.Core.List.{List, Memᴰ}
use native.Mathlib.Nat.{eq-or-lt_of_le, le_of_suc-le-suc, not-suc-le-zero}
use native.Mathlib.Numerals.{add-one}
use native.Mathlib.Omega.{arith}
use lib.Dec.{eqb, ltb}
use lib.ListN.{get_or}
use borrow.Author.Tests.{eq-eqb, eqb-true, lt-ltb}
use Rattle.ground.specs.Believed.Choice.{pick}
use Rattle.ground.proofs.BoolLaws.{or_yes, or_left, and_yes, and_both, eq-ext, clash}
use Rattle.ground.proofs.ListLaws.{some_in, some_out}
use Rattle.bitset.specs.Believed.Sets.{has, set_of, insert, union, intersection}
use Rattle.bitset.proofs.SetLaws.{ext, has-none, has-set_of, set_of-lt, fits-64, has-insert, has-union, has-intersection, insert-self}
use Rattle.rota_pairs.specs.Hierarchy.{Pairing, PairsWell, reaches, Chain}
use Rattle.rota_pairs.specs.HandedDown.{JuniorsAre, handed_down}
use Rattle.rota_pairs.proofs.HierarchyTheorems.{Link, Stepped, stay, stop-out, step_in, step-out, falls, lower, enough-all, reaches-iff}

module _ (pairs : List Pairing) (enabled : ℕ → Bool) (R : ℕ) (w : PairsWell R pairs) (few : R ≤ 32)
    (js : List ℕ) (are : JuniorsAre pairs js) (on : ℕ) (is-on : (i : ℕ) → i < R → has on i ≡ enabled i) where
  -- ---- the juniors that a role hands on to
  link-out : (n q : ℕ) → n < 32 → q < 64 → enabled n ≡ true → has (intersection (get_or js n 0) on) q ≡ true → Link pairs enabled n q
  link-out n q l m e h = record { paired = paired; above = e; below = sym (is-on q (omega (arith, falls pairs enabled R w n q paired))) ∙ both.1 }
    where
      both : (has (get_or js n 0) q ≡ true) × (has on q ≡ true)
      both = and_yes _ _ (sym (has-intersection (get_or js n 0) on q m) ∙ h)

      paired : Memᴰ (record { senior = n; junior = q }) pairs
      paired =
          let p = some_out _ pairs (sym (are.at n q l) ∙ both.0) in
          let x = p.0 in
          let b = and_yes (eqb x.senior n) (eqb x.junior q) p.2 in
          subst (λ (j : ℕ). Memᴰ (record { senior = n; junior = j }) pairs) (eqb-true x.junior q b.1)
          (subst (λ (s : ℕ). Memᴰ (record { senior = s; junior = x.junior }) pairs) (eqb-true x.senior n b.0) p.1)

  link-in : (n q : ℕ) → n < 32 → q < 64 → Link pairs enabled n q → has (intersection (get_or js n 0) on) q ≡ true
  link-in n q l m k =
      has-intersection (get_or js n 0) on q m
      ∙ and_both _ _
      (are.at n q l
      ∙ some_in (λ (x : Pairing). eqb x.senior n && eqb x.junior q) k.paired (and_both _ _ (eq-eqb n n refl) (eq-eqb q q refl)))
      (is-on q (omega (arith, falls pairs enabled R w n q k.paired)) ∙ k.below)

  -- ---- once role n has handed on
  abbrev next : ℕ → ℕ → ℕ
  next n x = pick (has x n) (union x (intersection (get_or js n 0) on)) x

  -- the members of a set are enabled
  abbrev Live : ℕ → Type 0
  Live x = (i : ℕ) → i < 64 → has x i ≡ true → enabled i ≡ true

  -- some member of x below n reaches q
  record From (n x q : ℕ) : Type 0 where
    pub member : ℕ
    pub low : member < n
    pub is : has x member ≡ true
    pub steps : ℕ
    pub way : reaches pairs enabled steps member q ≡ true

  module _ (n x : ℕ) (l : n < 32) where
    next-out : Live x → (q : ℕ) → q < 64 → has (next n x) q ≡ true → (has x q ≡ true) ⊎ ((has x n ≡ true) × Link pairs enabled n q)
    next-out live q m h = go (has x n) refl h
      where
        go : (b : Bool) → has x n ≡ b → has (pick b (union x (intersection (get_or js n 0) on)) x) q ≡ true
            → (has x q ≡ true) ⊎ ((has x n ≡ true) × Link pairs enabled n q)
        go true e g =
            ⊎_elim inl (λ (i : has (intersection (get_or js n 0) on) q ≡ true). inr (e, link-out n q l m (live n (omega arith) e) i))
            (or_yes _ _ (sym (has-union x (intersection (get_or js n 0) on) q m) ∙ g))
        go false e g = inl g

    next-keeps : (q : ℕ) → q < 64 → has x q ≡ true → has (next n x) q ≡ true
    next-keeps q m h = go (has x n)
      where
        go : (b : Bool) → has (pick b (union x (intersection (get_or js n 0) on)) x) q ≡ true
        go true = has-union x (intersection (get_or js n 0) on) q m ∙ or_left _ _ h
        go false = h

    next-adds : (q : ℕ) → q < 64 → has x n ≡ true → Link pairs enabled n q → has (next n x) q ≡ true
    next-adds q m h k =
        rw h (has-union x (intersection (get_or js n 0) on) q m ∙ ap (λ (b : Bool). has x q || b) (link-in n q l m k) ∙ or-true (has x q))

    next-live : Live x → Live (next n x)
    next-live live i m h = ⊎_elim (live i m) (λ (k : (has x n ≡ true) × Link pairs enabled n i). k.1.below) (next-out live i m h)

    module _ (q : ℕ) (m : q < 64) where
      turn-out : Live x → (has (next n x) q ≡ true) ⊎ From n (next n x) q → (has x q ≡ true) ⊎ From (suc n) x q
      turn-out live = ⊎_elim here below
        where
          by : (k j : ℕ) → (has x n ≡ true) × Link pairs enabled n j → reaches pairs enabled k j q ≡ true → (has x q ≡ true) ⊎ From (suc n) x q
          by k j s g = inr (record { member = n; low = omega arith; is = s.0; steps = suc k; way = step_in pairs enabled k n j q s.1 g })

          here : has (next n x) q ≡ true → (has x q ≡ true) ⊎ From (suc n) x q
          here g = ⊎_elim inl (λ s. by 0 q s (stay pairs enabled 0 q q refl)) (next-out live q m g)

          below : From n (next n x) q → (has x q ≡ true) ⊎ From (suc n) x q
          below f =
              ⊎_elim
              (λ (g : has x f.member ≡ true). inr (record { member = f.member; low = omega (arith, f.low); is = g; steps = f.steps; way = f.way }))
              (λ s. by f.steps f.member s f.way)
              (next-out live f.member (omega (arith, f.low)) f.is)

      turn_in : (has x q ≡ true) ⊎ From (suc n) x q → (has (next n x) q ≡ true) ⊎ From n (next n x) q
      turn_in = ⊎_elim kept
          (λ (f : From (suc n) x q). ⊎_elim
          (λ (e : f.member ≡ n). last f.steps (ap (has x) (sym e) ∙ f.is) (ap (λ (i : ℕ). reaches pairs enabled f.steps i q) (sym e) ∙ f.way))
          (λ (a : f.member < n).
          inr (record { member = f.member; low = a; is = next-keeps f.member (omega arith) f.is; steps = f.steps; way = f.way }))
          (eq-or-lt_of_le (le_of_suc-le-suc f.low)))
        where
          kept : has x q ≡ true → (has (next n x) q ≡ true) ⊎ From n (next n x) q
          kept g = inl (next-keeps q m g)

          last : (k : ℕ) → has x n ≡ true → reaches pairs enabled k n q ≡ true → (has (next n x) q ≡ true) ⊎ From n (next n x) q
          last zero i g = kept (ap (has x) (sym (stop-out pairs enabled n q g)) ∙ i)
          last (suc k) i g =
              ⊎_elim
              (λ (e : n ≡ q). kept (ap (has x) (sym e) ∙ i))
              (λ (s : Stepped pairs enabled k n q).
              let a = falls pairs enabled R w n s.next s.link.paired in
              inr (record { member = s.next; low = a.0; is = next-adds s.next (omega (arith, a.0)) i s.link; steps = k; way = s.rest }))
              (step-out pairs enabled k n q g)

  -- ---- and once all below n have
  down_out : (n x : ℕ) → n ≤ 32 → Live x → (q : ℕ) → q < 64 → has (handed_down js on n x) q ≡ true → (has x q ≡ true) ⊎ From n x q
  unfolding handed_down
  down_out zero x l live q m h = inl h
  down_out (suc n) x l live q m h = turn-out n x l q m live (down_out n (next n x) (omega arith) (next-live n x l live) q m h)

  down-in : (n x : ℕ) → n ≤ 32 → (q : ℕ) → q < 64 → (has x q ≡ true) ⊎ From n x q → has (handed_down js on n x) q ≡ true
  unfolding handed_down
  down-in zero x l q m h = ⊎_elim (λ g. g) (λ (f : From 0 x q). absurd (not-suc-le-zero f.low)) h
  down-in (suc n) x l q m h = down-in n (next n x) (omega arith) q m (turn_in n x l q m h)

  down_lt : (n x : ℕ) → x < 2 ^ 64 → handed_down js on n x < 2 ^ 64
  unfolding handed_down union
  down_lt zero x h = h
  down_lt (suc n) x h = down_lt n (next n x) (go (has x n))
    where
      go : (b : Bool) → pick b (union x (intersection (get_or js n 0) on)) x < 2 ^ 64
      go true = set_of-lt 64 _
      go false = h

  -- ---- from one role that is enabled
  module _ (r : ℕ) (l : r < R) (e : enabled r ≡ true) where
    only : (i : ℕ) → i < 64 → has (insert 0 r) i ≡ true → i ≡ r
    only i m h =
        ⊎_elim (λ (z : has 0 i ≡ true). clash (has 0 i) z (has-none i)) (λ (q : eqb i r ≡ true). eqb-true i r q)
        (or_yes (has 0 i) (eqb i r) (sym (has-insert 0 r i m) ∙ h))

    pub handed-is : (q : ℕ) → q < 64 → has (handed_down js on (r + 1) (insert 0 r)) q ≡ reaches pairs enabled R r q
    handed-is q m = rw (add-one r) (eq-ext _ _ (λ h. out (down_out (suc r) (insert 0 r) (omega arith) live q m h)) into)
      where
        live : Live (insert 0 r)
        live i k h = ap enabled (only i k h) ∙ e

        out : (has (insert 0 r) q ≡ true) ⊎ From (suc r) (insert 0 r) q → reaches pairs enabled R r q ≡ true
        out =
            ⊎_elim
            (λ (h : has (insert 0 r) q ≡ true). stay pairs enabled R r q (sym (only q m h)))
            (λ (f : From (suc r) (insert 0 r) q). enough-all pairs enabled R w f.steps R r q (omega arith)
            (ap (λ (i : ℕ). reaches pairs enabled f.steps i q) (sym (only f.member (omega (arith, f.low)) f.is)) ∙ f.way))

        into : reaches pairs enabled R r q ≡ true → has (handed_down js on (suc r) (insert 0 r)) q ≡ true
        into h =
            down-in (suc r) (insert 0 r) (omega arith) q m
            (inr (record { member = r; low = omega arith; is = insert-self 0 r (omega arith); steps = R; way = h }))

    pub handed-set : handed_down js on (r + 1) (insert 0 r) ≡ set_of R (reaches pairs enabled R r)
    unfolding insert
    handed-set = ext 64 _ _ (down_lt (r + 1) (insert 0 r) (set_of-lt 64 _)) (fits-64 R _ (omega arith)) (λ q m. handed-is q m ∙ sym (has-set_of R _ q ∙ within q))
      where
        within : (q : ℕ) → (ltb q R && reaches pairs enabled R r q) ≡ reaches pairs enabled R r q
        within q =
            eq-ext _ _ (λ h. (and_yes (ltb q R) _ h).1)
            (λ h. and_both _ _ (lt-ltb q R (omega (arith, lower pairs enabled R w R r q h))) h)

    pub handed-iff : (q : ℕ) → q < 64 → (has (handed_down js on (r + 1) (insert 0 r)) q ≡ true) ↔ Chain pairs enabled r q
    handed-iff q m =
        (λ h. (reaches-iff pairs enabled R w r q).0 (sym (handed-is q m) ∙ h), λ c. handed-is q m ∙ (reaches-iff pairs enabled R w r q).1 c)
