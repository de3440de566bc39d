-- No other table of untimed users and permissions has fewer derived roles of a role: at the minute of each of ours the rival has one derived role
-- enabled, and one that serves two of ours would give them the same two sets.
-- Assumes nothing.
use Rattle.ground.proofs.ListLaws.{some_in, some_out}
use Rattle.ground.proofs.BoolLaws.{and_left, and_right, and_both, eq-ext}
use Prim.Native.Nat.{ℕ, ◌≤◌, ◌<◌}
use mathlib.Core.Path.{◌≡◌, sym, ap, ap₂, ◌∙◌, subst}
use mathlib.Core.Logic.{⊎_elim}
use mathlib.Core.Bool.{Bool, true, ◌&&◌}
use Rattle.std.proofs.Common.{Option, Some}
use mathlib.Core.List.Memᴰ
use mathlib.Core.List.{List, [], map, Memᴰ}
use lib.Dec.{eqb}
use lib.ListN.{length}
use borrow.Author.Tests.{eqb-true}
use Rattle.ground.specs.Believed.Search.{any, count_of}
use Rattle.ground.proofs.SearchLaws.{list_any}
use Rattle.bitset.specs.Believed.Sets.{set_of}
use Rattle.bitset.proofs.SetLaws.{set_of-same}
use Rattle.minutes.specs.Believed.Minutes.{E, Window}
use Rattle.rota.specs.Believed.Rota.{Rota, enabled, has_user, has_permission}
use Rattle.rota.specs.Believed.Rota as rota
use Rattle.rota.specs.RotaWell.{RotaWell}
use Rattle.table.specs.Believed.Table.{Entry, Table}
use Rattle.table.specs.Believed.Table as table
use Rattle.rewrite_rules.specs.Believed.Rewriting.{users_at, permissions_at, derived_at, active, Kept, kept, entries_of, unjoined}
use Rattle.rewrite_rules.specs.Believed.Untimed.{Untimed, on_for, grants, untimed_at, untimed_of, Rival}
use Rattle.rewrite_rules.proofs.KeptLaws.{KeptAt, kept-minute}
use Rattle.rewrite_rules.proofs.KeptListLaws.{kept_out}
use Rattle.rewrite_rules.proofs.DistinctLaws.{Distinct, added_out, added-distinct}
use Rattle.rewrite_rules.proofs.MeaningLaws.{same-decides, Active, active-out, through_same}
use Rattle.rewrite_rules.proofs.CountingLaws.{count-one, Match, pigeon}

-- what a table grants for a role is what it answers through that role
pub grants-own : (τ : Table) (r t u p : ℕ) → grants (untimed_of τ) r t u p ≡ table.through τ u p t r
unfolding grants table.through
grants-own τ r t u p = list_any (λ (o : Untimed). on_for r t o && o.user u && o.permission p) (length τ.entries) (untimed_at τ)

-- where one derived role at most is enabled, it grants all that is granted
sole : (os : List Untimed) (r t u p : ℕ) → count_of (on_for r t) os ≤ 1 → (o : Untimed) → Memᴰ o os → on_for r t o ≡ true
    → (o.user u && o.permission p) ≡ grants os r t u p
unfolding grants
sole os r t u p one o m h =
    eq-ext _ (any test os)
    (λ k. some_in test m (and_both _ _ (and_both _ _ h (and_left _ _ k)) (and_right (o.user u) _ k)))
    (λ k. back (some_out test os k))
  where
    test : Untimed → Bool
    test x = on_for r t x && x.user u && x.permission p

    back : (x : Untimed) × Memᴰ x os × (test x ≡ true) → (o.user u && o.permission p) ≡ true
    back z =
        let x : Untimed = z.0 in
        let q : test x ≡ true = z.2 in
        let a : on_for r t x ≡ true = and_left _ _ (and_left _ _ q) in
        let b : x.user u ≡ true = and_right (on_for r t x) _ (and_left _ _ q) in
        let c : x.permission p ≡ true = and_right (on_for r t x && x.user u) _ q in
        let e : x ≡ o = count-one (on_for r t) os x o one z.1 m a h in
        subst (λ (y : Untimed). (y.user u && y.permission p) ≡ true) e (and_both _ _ b c)

-- r is e at a minute, and o gives then the pairs that r has
record Serves (ρ : Rota) (r : ℕ) (e : Entry) (o : Untimed) : Type 0 where
  minute : ℕ
  on : active ρ r minute ≡ true
  is : derived_at ρ r minute ≡ e
  pairs : (u p : ℕ) → u < ρ.users → p < ρ.permissions → (o.user u && o.permission p) ≡ (has_user ρ u r minute && has_permission ρ p r minute)

-- two sets that are not empty are known by the pairs of their members
module _ (n m : ℕ) (f f' g g' : ℕ → Bool) (pairs : (x y : ℕ) → x < n → y < m → (f x && g y) ≡ (f' x && g' y)) where
  left-same : ((y : ℕ) × (y < m) × (g y ≡ true)) → ((y : ℕ) × (y < m) × (g' y ≡ true)) → set_of n f ≡ set_of n f'
  left-same y y' =
      set_of-same n f f'
      (λ x l. eq-ext _ _
      (λ h. and_left _ _ (sym (pairs x y.0 l y.1) ∙ and_both _ _ h y.2))
      (λ h. and_left _ _ (pairs x y'.0 l y'.1 ∙ and_both _ _ h y'.2)))

  right-same : ((x : ℕ) × (x < n) × (f x ≡ true)) → ((x : ℕ) × (x < n) × (f' x ≡ true)) → set_of m g ≡ set_of m g'
  right-same x x' =
      set_of-same m g g'
      (λ y l. eq-ext _ _
      (λ h. and_right (f' x.0) _ (sym (pairs x.0 y x.1 l) ∙ and_both _ _ x.2 h))
      (λ h. and_right (f x'.0) _ (pairs x'.0 y x'.1 l ∙ and_both _ _ x'.2 h)))

module _ (ρ : Rota) (w : RotaWell ρ) where
  -- each entry comes from a minute
  entry-minute : (e : Entry) → Memᴰ e (unjoined ρ).entries → (f : Window) × KeptAt ρ e.source f e
  unfolding unjoined entries_of
  entry-minute e m =
      ⊎_elim (λ k. absurd (Memᴰ.not-nil k)) (λ k. of-kept (Memᴰ.of_map (λ (z : Kept). z.entry) (kept ρ) k))
      (added_out same-decides [] (map (λ (z : Kept). z.entry) (kept ρ)) e m)
    where
      of-kept : (k : Kept) × Memᴰ k (kept ρ) × (k.entry ≡ e) → (f : Window) × KeptAt ρ e.source f e
      of-kept z =
          let k : Kept = z.0 in
          let r = kept_out ρ k z.1 in
          let a : KeptAt ρ r.0 k.field e = kept-minute ρ r.0 k.field e (r.2.kept-as ∙ ap {B = Option Entry} Some z.2) in
          let s : r.0 ≡ e.source = ap (λ (x : Entry). x.source) a.is in
          (k.field, subst (λ (q : ℕ). KeptAt ρ q k.field e) s a)

  distinct-entries : Distinct (unjoined ρ).entries
  unfolding unjoined entries_of
  distinct-entries = added-distinct same-decides [] (map (λ (z : Kept). z.entry) (kept ρ)) tt

  on-through : (r t u p : ℕ) → enabled ρ r t ≡ true → rota.through ρ u p t r ≡ (has_user ρ u r t && has_permission ρ p r t)
  unfolding rota.through
  on-through r t u p h = rw h

  module _ (r : ℕ) (hr : r < length ρ.roles) (os : List Untimed) (rival : Rival (unjoined ρ) r os) where
    -- the rival's one derived role at a minute at which r is active
    partner-at : (e : Entry) (t : ℕ) → t < E → active ρ r t ≡ true → derived_at ρ r t ≡ e → Match (λ (o : Untimed). eqb o.source r) (Serves ρ r) os e
    unfolding grants unjoined
    partner-at e t ht on is = of-rival (some_out (λ (o : Untimed). on_for r t o && o.user a.user.0 && o.permission a.permission.0) os granted)
      where
        a : Active ρ r t
        a = active-out ρ r t on

        pairs : (u p : ℕ) → u < ρ.users → p < ρ.permissions → grants os r t u p ≡ (has_user ρ u r t && has_permission ρ p r t)
        pairs u p hu hp = rival.same-pairs t u p ht hu hp ∙ grants-own (unjoined ρ) r t u p ∙ through_same ρ w u p t r hu hp ht hr ∙ on-through r t u p a.on

        granted : grants os r t a.user.0 a.permission.0 ≡ true
        granted = pairs _ _ a.user.1 a.permission.1 ∙ and_both _ _ a.user.2 a.permission.2

        of-rival : (o : Untimed) × Memᴰ o os × ((on_for r t o && o.user a.user.0 && o.permission a.permission.0) ≡ true)
            → Match (λ (o : Untimed). eqb o.source r) (Serves ρ r) os e
        of-rival z =
            let o : Untimed = z.0 in
            let h : on_for r t o ≡ true = and_left _ _ (and_left _ _ z.2) in
            record {
              partner = o;
              there = z.1;
              passes = and_left _ _ h;
              matched = record {
                minute = t;
                on = on;
                is = is;
                pairs = λ u p hu hp. sole os r t u p (rival.one-at-a-time t ht) o z.1 h ∙ pairs u p hu hp;
              };
            }

    -- one derived role of the rival serves one of ours at most
    serves-one : (e e' : Entry) (o : Untimed) → Serves ρ r e o → Serves ρ r e' o → e ≡ e'
    unfolding users_at permissions_at
    serves-one e e' o a b =
        sym a.is
        ∙ ap₂ (λ (x y : ℕ). record { source = r; users = x; permissions = y })
        (left-same _ _ _ _ _ _ both A.permission B.permission) (right-same _ _ _ _ _ _ both A.user B.user)
        ∙ b.is
      where
        A : Active ρ r a.minute
        A = active-out ρ r a.minute a.on

        B : Active ρ r b.minute
        B = active-out ρ r b.minute b.on

        both : (u p : ℕ) → u < ρ.users → p < ρ.permissions
            → (has_user ρ u r a.minute && has_permission ρ p r a.minute) ≡ (has_user ρ u r b.minute && has_permission ρ p r b.minute)
        both u p hu hp = sym (a.pairs u p hu hp) ∙ b.pairs u p hu hp

    pub no-fewer : count_of (λ (e : Entry). eqb e.source r) (unjoined ρ).entries ≤ count_of (λ (o : Untimed). eqb o.source r) os
    no-fewer =
        pigeon (λ (e : Entry). eqb e.source r) (λ (o : Untimed). eqb o.source r) (Serves ρ r) serves-one (unjoined ρ).entries distinct-entries os
        (λ e m h. served e (eqb-true e.source r h) (entry-minute e m))
      where
        served : (e : Entry) → e.source ≡ r → (f : Window) × KeptAt ρ e.source f e → Match (λ (o : Untimed). eqb o.source r) (Serves ρ r) os e
        served e q z =
            let k : KeptAt ρ r z.0 e = subst (λ (x : ℕ). KeptAt ρ x z.0 e) q z.1 in
            partner-at e k.minute k.early k.on k.is
