-- What is kept of a rota: for each role, of which fields, with which derived role, in which order, and how many.
--     same-is, same_self, other-source     when two derived roles are the same
--     entries-there, entries-all, entries-length    each derived role that is kept is among the entries; what holds of all entries; how many
--     kept_of-all, kept_of-entries           what holds of all that is kept for a role
--     kept_from-all, kept_from-source        what holds of all that is kept for some roles
--     kept-ordered, kept-few               in order of roles and fields, at most 1,067,040
-- Assumes nothing.
use Rattle.ground.proofs.SearchLaws.{lowest-out}
use Rattle.ground.proofs.BoolLaws.{and_yes}
use Rattle.ground.proofs.ListLaws.{all-unit, all_append, all_map, all-mapped, all-with, Pairwise, pairwise_append, pairwise-with}
use Prim.Native.Nat.{ℕ, zero, suc, ◌+◌, ◌*◌, ◌^◌, ◌≤◌, ◌<◌}
use mathlib.Core.Path.{◌≡◌, refl, sym, subst, ◌∙◌}
use mathlib.Core.Logic.{◌⊎◌, inl, inr}
use mathlib.Core.Bool.{true, false, not, ◌&&◌}
use Rattle.std.proofs.Common.{Option, None, Some}
use mathlib.Core.List.{List, [], ◌∷◌, map}
use native.Mathlib.Nat.{mul-le-mul_right, mul-le-mul_left}
use native.Mathlib.Omega.{arith}
use borrow.Author.Tests.{eqb-true, eq-eqb, ne_eqb, not-true}
use lib.Dec.{eqb}
use lib.ListN.{length, length-append, length-map}
use Rattle.ground.specs.Believed.Search.{any, lowest_below}
use Rattle.ground.specs.Believed.Sequence.{All}
use Rattle.ground.proofs.JudgementLaws.{pos_of}
use Rattle.bitset.proofs.SetLaws.{set_of-lt}
use Rattle.minutes.specs.Believed.Minutes.{E, Window, covers}
use Rattle.rota.specs.Believed.Rota.{Rota, enabled}
use Rattle.rota.specs.RotaWell.{RotaWell}
use Rattle.table.specs.Believed.Table.{Entry}
use Rattle.rewrite_rules.specs.Believed.Rewriting.{fields, users_at, permissions_at, derived_at, active, derived_there, kept_as, Kept, keep, kept_of, kept_from, kept, same, entries_of}
use Rattle.rewrite_rules.proofs.TableDistinct.{there, add_all-all, add_all-there, add_all-length}
use Rattle.rewrite_rules.proofs.TableFields.{Before, fields-ordered, fields-few}

-- the derived role of what is kept
abbrev pub entry : Kept → Entry
entry k = k.entry

-- two derived roles are the same exactly when they are equal
pub same-is : (a b : Entry) → same a b ≡ true → a ≡ b
same-is a b h =
    let p = and_yes _ _ h in
    let q = and_yes _ _ p.0 in
    let x : a.source ≡ b.source = eqb-true _ _ q.0 in
    let y : a.users ≡ b.users = eqb-true _ _ q.1 in
    let z : a.permissions ≡ b.permissions = eqb-true _ _ p.1 in
    λ i. record { source = x i; users = y i; permissions = z i }

pub same_self : (a : Entry) → same a a ≡ true
same_self a = rw (eq-eqb a.source a.source refl, eq-eqb a.users a.users refl, eq-eqb a.permissions a.permissions refl)

-- a derived role is not among those of other roles
pub other-source : (e : Entry) (es : List Entry) → All (λ (o : Entry). e.source ≡ o.source → ⊥) es → there same e es ≡ false
unfolding any
other-source e [] h = refl
other-source e (o ∷ es) h = rw (ne_eqb e.source o.source h.0) (other-source e es h.1)

-- each derived role that is kept is among the entries
pub entries-there : (ks : List Kept) → All (λ (k : Kept). there same k.entry (entries_of ks) ≡ true) ks
unfolding entries_of
entries-there ks =
    all-mapped (λ (e : Entry). there same e (entries_of ks) ≡ true) entry ks (add_all-there same same_self [] (map entry ks))

pub entries-all : (P : Entry → Type 0) (ks : List Kept) → All (λ (k : Kept). P k.entry) ks → All P (entries_of ks)
unfolding entries_of
entries-all P ks h = add_all-all same P [] (map entry ks) tt (all_map P entry ks h)

pub entries-length : (ks : List Kept) → length (entries_of ks) ≤ length ks
unfolding entries_of
entries-length ks = omega (arith, add_all-length same [] (map entry ks), length-map ks entry)

-- what is kept for role r is a derived role of it, with a user and a permission
pub record DerivedOf (ρ : Rota) (r : ℕ) (e : Entry) : Type 0 where
  pub source : e.source ≡ r
  pub some-user : 0 < e.users
  pub some-permission : 0 < e.permissions
  pub users-below : e.users < 2 ^ ρ.users
  pub permissions-below : e.permissions < 2 ^ ρ.permissions

module _ (ρ : Rota) where
  active-derived : (r t : ℕ) → active ρ r t ≡ true → DerivedOf ρ r (derived_at ρ r t)
  unfolding active users_at permissions_at
  active-derived r t h =
      let p = and_yes (enabled ρ r t && not (eqb (users_at ρ r t) 0)) (not (eqb (permissions_at ρ r t) 0)) h in
      let q = and_yes (enabled ρ r t) (not (eqb (users_at ρ r t) 0)) p.0 in
      record {
        source = refl;
        some-user = pos_of (users_at ρ r t) (not-true _ q.1);
        some-permission = pos_of (permissions_at ρ r t) (not-true _ p.1);
        users-below = set_of-lt ρ.users _;
        permissions-below = set_of-lt ρ.permissions _;
      }

  pub kept-derived : (r : ℕ) (f : Window) (e : Entry) → kept_as ρ r f ≡ Some e → DerivedOf ρ r e
  unfolding kept_as
  kept-derived r f e h = go (lowest_below E (λ t. covers ρ.cycle f t && active ρ r t)) refl h
    where
      go : (o : Option ℕ) → lowest_below E (λ t. covers ρ.cycle f t && active ρ r t) ≡ o → derived_there ρ r o ≡ Some e → DerivedOf ρ r e
      go None p q = let z : ◌≡◌ {A = ℕ} 0 1 = cc in absurd (omega arith)
      go (Some t) p q =
          let is : derived_at ρ r t ≡ e = cc in
          subst (DerivedOf ρ r) is (active-derived r t (and_yes (covers ρ.cycle f t) (active ρ r t) (lowest-out _ E t p).1).1)

  -- of all that is kept for a role holds what holds of each field that is kept
  pub kept_of-all : (P : Kept → Type 0) (r : ℕ) (fs : List Window)
      → All (λ (f : Window). (e : Entry) → kept_as ρ r f ≡ Some e → P (record { entry = e; field = f })) fs → All P (kept_of ρ r fs)
  unfolding kept_of
  kept_of-all P r [] h = tt
  kept_of-all P r (f ∷ fs) h = go (kept_as ρ r f) refl (kept_of-all P r fs h.1)
    where
      go : (o : Option Entry) → kept_as ρ r f ≡ o → All P (kept_of ρ r fs) → All P (keep o f (kept_of ρ r fs))
      go None e q = q
      go (Some x) e q = (h.0 x e, q)

  pub kept_of-fields : (P : Window → Type 0) (r : ℕ) (fs : List Window) → All P fs → All (λ (k : Kept). P k.field) (kept_of ρ r fs)
  kept_of-fields P r fs h = kept_of-all (λ (k : Kept). P k.field) r fs (all-with (λ f p e q. p) fs h)

  pub kept_of-entries : (r : ℕ) (fs : List Window) → All (λ (k : Kept). DerivedOf ρ r k.entry) (kept_of ρ r fs)
  kept_of-entries r fs = kept_of-all (λ (k : Kept). DerivedOf ρ r k.entry) r fs (all-with (λ f u. kept-derived r f) fs (all-unit fs))

  pub kept_of-length : (r : ℕ) (fs : List Window) → length (kept_of ρ r fs) ≤ length fs
  unfolding kept_of
  kept_of-length r [] = omega arith
  kept_of-length r (f ∷ fs) = go (kept_as ρ r f) (kept_of-length r fs)
    where
      go : (o : Option Entry) → length (kept_of ρ r fs) ≤ length fs → length (keep o f (kept_of ρ r fs)) ≤ suc (length fs)
      go None h = omega arith
      go (Some e) h = omega arith

  kept_of-ordered : (r : ℕ) (fs : List Window) → Pairwise Before fs → Pairwise (λ (j k : Kept). Before j.field k.field) (kept_of ρ r fs)
  unfolding kept_of
  kept_of-ordered r [] p = tt
  kept_of-ordered r (f ∷ fs) p = go (kept_as ρ r f) (kept_of-fields (Before f) r fs p.0) (kept_of-ordered r fs p.1)
    where
      Ordered : List Kept → Type 0
      Ordered = Pairwise (λ (j k : Kept). Before j.field k.field)

      go : (o : Option Entry) → All (λ (k : Kept). Before f k.field) (kept_of ρ r fs) → Ordered (kept_of ρ r fs) → Ordered (keep o f (kept_of ρ r fs))
      go None a b = b
      go (Some e) a b = (a, b)

  -- n roles from r on
  pub kept_from-all : (P : Kept → Type 0) (n r : ℕ) → ((q : ℕ) → r ≤ q → q < r + n → All P (kept_of ρ q (fields ρ))) → All P (kept_from ρ n r)
  unfolding kept_from
  kept_from-all P zero r h = tt
  kept_from-all P (suc n) r h =
      all_append P (kept_of ρ r (fields ρ)) (kept_from ρ n (suc r)) (h r (omega arith) (omega arith))
      (kept_from-all P n (suc r) (λ q a b. h q (omega arith) (omega arith)))

  pub kept_from-source : (n r : ℕ) → All (λ (k : Kept). r ≤ k.entry.source) (kept_from ρ n r)
  kept_from-source n r =
      kept_from-all (λ (k : Kept). r ≤ k.entry.source) n r
      (λ q a b. all-with (λ k d. omega (arith, d.source)) (kept_of ρ q (fields ρ)) (kept_of-entries q (fields ρ)))

  pub kept_from-length : (n r : ℕ) → length (kept_from ρ n r) ≤ n * length (fields ρ)
  unfolding kept_from
  kept_from-length zero r = omega arith
  kept_from-length (suc n) r =
      omega (arith, length-append (kept_of ρ r (fields ρ)) (kept_from ρ n (suc r)), kept_of-length r (fields ρ), kept_from-length n (suc r))

-- a field g of role q comes after a field f of role p: of a greater role, or of the same one and after it
abbrev pub After : ℕ → ℕ → Window → Window → Type 0
After p q f g =
    (p < q)
    ⊎ ((p ≡ q) × (f.begin ≡ g.begin) × (f.end ≡ g.end) × (f.offset + f.length ≤ g.offset))
    ⊎ ((p ≡ q) × (f.end ≤ g.begin))

abbrev pub KeptAfter : Kept → Kept → Type 0
KeptAfter j k = After j.entry.source k.entry.source j.field k.field

after-before : (p q : ℕ) (f g : Window) → p ≡ q → Before f g → After p q f g
after-before p q f g e (inl h) = inr (inl (e, h.0, h.1, h.2))
after-before p q f g e (inr h) = inr (inr (e, h))

module _ (ρ : Rota) (w : RotaWell ρ) where
  kept_from-ordered : (n r : ℕ) → Pairwise KeptAfter (kept_from ρ n r)
  unfolding kept_from
  kept_from-ordered zero r = tt
  kept_from-ordered (suc n) r =
      let own = kept_of-entries ρ r (fields ρ) in
      pairwise_append KeptAfter (kept_of ρ r (fields ρ)) (kept_from ρ n (suc r))
      (pairwise-with (λ j k a b h. after-before _ _ j.field k.field (a.source ∙ sym b.source) h) (kept_of ρ r (fields ρ)) own
      (kept_of-ordered ρ r (fields ρ) (fields-ordered ρ w)))
      (kept_from-ordered n (suc r))
      (all-with (λ j a. all-with (λ k b. inl (omega (arith, a.source))) (kept_from ρ n (suc r)) (kept_from-source ρ n (suc r))) (kept_of ρ r (fields ρ)) own)

  pub kept-ordered : Pairwise KeptAfter (kept ρ)
  unfolding kept
  kept-ordered = kept_from-ordered (length ρ.roles) 0

  pub kept-few : length (kept ρ) ≤ 1067040
  unfolding kept
  kept-few =
      omega (arith, kept_from-length ρ (length ρ.roles) 0, mul-le-mul_right (length (fields ρ)) w.roles-most, mul-le-mul_left 32 (fields-few ρ w))
