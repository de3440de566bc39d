-- What the rewritten table means, before rows that touch are joined: at each minute, of each role, the derived role that the role is then.
--     active-in, active-out          a role is active: it is enabled and has a user and a permission
--     sound, complete                a derived role is enabled exactly where its role is active and is that derived role
--     through_same, answer-same      table and rota give the same answers
-- Assumes nothing.
use Rattle.ground.proofs.ListLaws.{some_in, some_out}
use Prim.Native.Nat.{ℕ, ◌<◌}
use mathlib.Core.Path.{◌≡◌, refl, sym, ap, ◌∙◌, subst}
use mathlib.Core.Logic.{inr}
use mathlib.Core.Bool.{Bool, true, false, ◌&&◌}
use Rattle.std.proofs.Common.{None, Some}
use mathlib.Core.List.{List, [], map, Memᴰ}
use native.Mathlib.Omega.{arith}
use lib.Dec.{eqb}
use lib.ListN.{length, get_or}
use borrow.Author.Tests.{eqb-true, eq-eqb}
use Rattle.ground.specs.Believed.Choice.{pick}
use Rattle.ground.specs.Believed.Search.{any_below}
use Rattle.ground.proofs.BoolLaws.{pick_true, and_left, and_right, and_both, eq-ext}
use Rattle.ground.proofs.SearchLaws.{any-stop, any_out, lowest-same}
use Rattle.bitset.specs.Believed.Sets.{has}
use Rattle.bitset.proofs.SetLaws.{has-below, member-in, member-out}
use Rattle.minutes.specs.Believed.Minutes.{E, covers}
use Rattle.rota.specs.Believed.Rota.{Rota, enabled, has_user, has_permission}
use Rattle.rota.specs.Believed.Rota as rota
use Rattle.rota.specs.RotaWell.{RotaWell}
use Rattle.table.specs.Believed.Table.{Entry, Row, Table, no_entry, entry_at}
use Rattle.table.specs.Believed.Table as table
use Rattle.rewrite_rules.specs.Believed.Distinct.{place_of}
use Rattle.rewrite_rules.specs.Believed.Rewriting.{users_at, permissions_at, derived_at, active, kept_as, Kept, kept, same, entries_of, row_of, unjoined}
use Rattle.rewrite_rules.proofs.FieldLaws.{field-find}
use Rattle.rewrite_rules.proofs.KeptLaws.{kept-is}
use Rattle.rewrite_rules.proofs.KeptListLaws.{kept-in, kept_out}
use Rattle.rewrite_rules.proofs.DistinctLaws.{Decides, added-in, place-below, place-at}

-- two entries are the same where source and sets are
pub same-decides : Decides same
same-decides =
    record {
      sound = λ x y h.
          let p : x.source ≡ y.source = eqb-true _ _ (search (and_left, and_right)) in
          let q : x.users ≡ y.users = eqb-true _ _ (search (and_left, and_right)) in
          let s : x.permissions ≡ y.permissions = eqb-true _ _ (search (and_left, and_right)) in
          λ i. record { source = p i; users = q i; permissions = s i };
      self = λ x. and_both _ _ (and_both _ _ (eq-eqb x.source _ refl) (eq-eqb x.users _ refl)) (eq-eqb x.permissions _ refl);
    }

-- ---- an active role

-- role r is enabled at t and has a user and a permission
pub record Active (ρ : Rota) (r t : ℕ) : Type 0 where
  pub on : enabled ρ r t ≡ true
  pub user : (u : ℕ) × (u < ρ.users) × (has_user ρ u r t ≡ true)
  pub permission : (p : ℕ) × (p < ρ.permissions) × (has_permission ρ p r t ≡ true)

module _ (ρ : Rota) (r t : ℕ) where
  pub active-out : active ρ r t ≡ true → Active ρ r t
  unfolding active users_at permissions_at
  active-out h =
      record {
        on = search (and_left, and_right);
        user = member-out ρ.users (λ u. has_user ρ u r t) (search (and_left, and_right));
        permission = member-out ρ.permissions (λ p. has_permission ρ p r t) (search (and_left, and_right));
      }

  pub active-in : Active ρ r t → active ρ r t ≡ true
  unfolding active users_at permissions_at
  active-in h =
      and_both _ _
      (and_both _ _ h.on (member-in ρ.users (λ u. has_user ρ u r t) h.user.0 h.user.1 h.user.2))
      (member-in ρ.permissions (λ p. has_permission ρ p r t) h.permission.0 h.permission.1 h.permission.2)

  user-bit : (u : ℕ) → u < ρ.users → has (users_at ρ r t) u ≡ has_user ρ u r t
  unfolding users_at
  user-bit u l = has-below ρ.users _ u l

  permission-bit : (p : ℕ) → p < ρ.permissions → has (permissions_at ρ r t) p ≡ has_permission ρ p r t
  unfolding permissions_at
  permission-bit p l = has-below ρ.permissions _ p l

-- ---- derived roles

pick_some : (b : Bool) (x e : Entry) → pick b (Some x) None ≡ Some e → (b ≡ true) × (x ≡ e)
pick_some true x e h = (refl, (cc))
pick_some false x e h = let z : ◌≡◌ {A = ℕ} 0 1 = cc in absurd (omega arith)

-- derived role i is enabled at t
pub record Enabled (ρ : Rota) (i t : ℕ) : Type 0 where
  pub below : i < length (unjoined ρ).entries
  pub source-below : (entry_at (unjoined ρ) i).source < length ρ.roles
  pub on : active ρ (entry_at (unjoined ρ) i).source t ≡ true
  pub is : derived_at ρ (entry_at (unjoined ρ) i).source t ≡ entry_at (unjoined ρ) i
  pub place : i ≡ place_of same (entry_at (unjoined ρ) i) (unjoined ρ).entries

module _ (ρ : Rota) (w : RotaWell ρ) where
  entry_in : (k : Kept) → Memᴰ k (kept ρ) → Memᴰ k.entry (entries_of (kept ρ))
  unfolding entries_of
  entry_in k m = added-in same-decides [] (map (λ (z : Kept). z.entry) (kept ρ)) k.entry (inr (mathlib.Core.List.Memᴰ.map (λ (z : Kept). z.entry) m))

  pub sound : (i t : ℕ) → table.enabled (unjoined ρ) i t ≡ true → Enabled ρ i t
  unfolding table.enabled unjoined
  sound i t h = row (some_out (λ (x : Row). eqb x.derived i && covers ρ.cycle x.window t) (unjoined ρ).rows h)
    where
      es : List Entry
      es = entries_of (kept ρ)

      of-kept : (k : Kept) → Memᴰ k (kept ρ) → place_of same k.entry es ≡ i → covers ρ.cycle k.field t ≡ true → Enabled ρ i t
      of-kept k m e c =
          let z = kept_out ρ k m in
          let there : Memᴰ k.entry es = entry_in k m in
          let here : get_or es i no_entry ≡ k.entry = ap (λ (j : ℕ). get_or es j no_entry) (sym e) ∙ place-at same-decides k.entry es no_entry there in
          let a : (active ρ z.0 t ≡ true) × (derived_at ρ z.0 t ≡ k.entry)
          = pick_some _ _ _ (sym (kept-is ρ z.0 k.field w z.2.field_in t c) ∙ z.2.kept-as) in
          let s : z.0 ≡ (get_or es i no_entry).source = ap (λ (x : Entry). x.source) (a.1 ∙ sym here) in
          record {
            below = subst (λ (j : ℕ). j < length es) e (place-below same-decides k.entry es there);
            source-below = subst (λ (q : ℕ). q < length ρ.roles) s z.1;
            on = subst (λ (q : ℕ). active ρ q t ≡ true) s a.0;
            is = ap (λ (q : ℕ). derived_at ρ q t) (sym s) ∙ a.1 ∙ sym here;
            place = sym e ∙ ap (λ (x : Entry). place_of same x es) (sym here);
          }

      row : (x : Row) × Memᴰ x (unjoined ρ).rows × ((eqb x.derived i && covers ρ.cycle x.window t) ≡ true) → Enabled ρ i t
      row r =
          let x : Row = r.0 in
          let k : (k : Kept) × Memᴰ k (kept ρ) × (row_of es k ≡ x) = mathlib.Core.List.Memᴰ.of_map (row_of es) (kept ρ) r.1 in
          of-kept k.0 k.1 (ap (λ (y : Row). y.derived) k.2 ∙ eqb-true x.derived i (and_left _ _ r.2))
          (ap (λ (y : Row). covers ρ.cycle y.window t) k.2 ∙ and_right (eqb x.derived i) _ r.2)

  pub record Found (r t : ℕ) : Type 0 where
    pub index : ℕ
    pub below : index < length (unjoined ρ).entries
    pub is : entry_at (unjoined ρ) index ≡ derived_at ρ r t
    pub on : table.enabled (unjoined ρ) index t ≡ true

  pub complete : (r t : ℕ) → r < length ρ.roles → t < E → active ρ r t ≡ true → Found r t
  unfolding table.enabled unjoined
  complete r t hr ht a =
      let z = field-find ρ w t ht in
      let k : Kept = record { entry = derived_at ρ r t; field = z.0 } in
      let q : kept_as ρ r z.0 ≡ Some (derived_at ρ r t) = kept-is ρ r z.0 w z.1 t z.2 ∙ pick_true _ _ None a in
      let m : Memᴰ k (kept ρ) = kept-in ρ r k hr (record { field_in = z.1; kept-as = q }) in
      let es : List Entry = entries_of (kept ρ) in
      let there : Memᴰ k.entry es = entry_in k m in
      let i : ℕ = place_of same k.entry es in
      record {
        index = i;
        below = place-below same-decides k.entry es there;
        is = place-at same-decides k.entry es no_entry there;
        on =
            some_in (λ (x : Row). eqb x.derived i && covers ρ.cycle x.window t) (mathlib.Core.List.Memᴰ.map (row_of es) m)
            (and_both _ _ (eq-eqb i i refl) z.2);
      }

  -- the same, of a derived role of r
  module _ (i r t : ℕ) (h : table.enabled (unjoined ρ) i t ≡ true) (e : (entry_at (unjoined ρ) i).source ≡ r) where
    pub of-active : active ρ r t ≡ true
    of-active = subst (λ (q : ℕ). active ρ q t ≡ true) e (sound i t h).on

    pub of_is : derived_at ρ r t ≡ entry_at (unjoined ρ) i
    of_is = ap (λ (q : ℕ). derived_at ρ q t) (sym e) ∙ (sound i t h).is

    pub of-place : i ≡ place_of same (derived_at ρ r t) (unjoined ρ).entries
    of-place = (sound i t h).place ∙ ap (λ (x : Entry). place_of same x (unjoined ρ).entries) (sym of_is)

  -- ---- the answers

  pub through_same : (u p t r : ℕ) → u < ρ.users → p < ρ.permissions → t < E → r < length ρ.roles
      → table.through (unjoined ρ) u p t r ≡ rota.through ρ u p t r
  unfolding table.through rota.through
  through_same u p t r hu hp ht hr = eq-ext (any_below (length τ.entries) test) _ (λ h. down (any_out (length τ.entries) test h)) up
    where
      τ : Table
      τ = unjoined ρ

      test : ℕ → Bool
      test i = eqb (entry_at τ i).source r && table.enabled τ i t && has (entry_at τ i).users u && has (entry_at τ i).permissions p

      users-are : (i : ℕ) → derived_at ρ r t ≡ entry_at τ i → has (entry_at τ i).users u ≡ has_user ρ u r t
      users-are i e = ap (λ (x : Entry). has x.users u) (sym e) ∙ user-bit ρ r t u hu

      permissions-are : (i : ℕ) → derived_at ρ r t ≡ entry_at τ i → has (entry_at τ i).permissions p ≡ has_permission ρ p r t
      permissions-are i e = ap (λ (x : Entry). has x.permissions p) (sym e) ∙ permission-bit ρ r t p hp

      down : (i : ℕ) × (i < length τ.entries) × (test i ≡ true) → (enabled ρ r t && has_user ρ u r t && has_permission ρ p r t) ≡ true
      down z =
          let i : ℕ = z.0 in
          let h : test i ≡ true = z.2 in
          let e : (entry_at τ i).source ≡ r = eqb-true _ _ (search (and_left)) in
          let on : table.enabled τ i t ≡ true = search (and_left, and_right) in
          let bu : has (entry_at τ i).users u ≡ true = search (and_left, and_right) in
          let bp : has (entry_at τ i).permissions p ≡ true = search (and_left, and_right) in
          let is : derived_at ρ r t ≡ entry_at τ i = of_is i r t on e in
          and_both _ _ (and_both _ _ (active-out ρ r t (of-active i r t on e)).on (sym (users-are i is) ∙ bu)) (sym (permissions-are i is) ∙ bp)

      up : (enabled ρ r t && has_user ρ u r t && has_permission ρ p r t) ≡ true → any_below (length τ.entries) test ≡ true
      up h =
          let a : enabled ρ r t ≡ true = search (and_left) in
          let b : has_user ρ u r t ≡ true = search (and_left, and_right) in
          let c : has_permission ρ p r t ≡ true = search (and_left, and_right) in
          let k : Found r t = complete r t hr ht (active-in ρ r t (record { on = a; user = (u, hu, b); permission = (p, hp, c) })) in
          let i : ℕ = k.index in
          any-stop test (length τ.entries) i k.below
          (and_both _ _
          (and_both _ _
          (and_both _ _ (eq-eqb (entry_at τ i).source r (ap (λ (x : Entry). x.source) k.is)) k.on)
          (users-are i (sym k.is) ∙ b))
          (permissions-are i (sym k.is) ∙ c))

  pub answer-same : (u p t : ℕ) → u < ρ.users → p < ρ.permissions → t < E → table.answer (unjoined ρ) u p t ≡ rota.answer ρ u p t
  unfolding table.answer rota.answer unjoined
  answer-same u p t hu hp ht = lowest-same (length ρ.roles) _ _ (λ r hr. through_same u p t r hu hp ht hr)
