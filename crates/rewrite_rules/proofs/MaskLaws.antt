-- A field by the hours that hold in it: the mask says of a role what the field's minutes say.
-- Assumes nothing.
use Rattle.ground.proofs.ListLaws.{all_in, at_in, some_same}
use Prim.Native.Nat.{ℕ, ◌<◌}
use mathlib.Core.Path.{◌≡◌, refl, sym, ap, ◌∙◌}
use mathlib.Core.Bool.{Bool, true, false, ◌&&◌}
use Rattle.std.proofs.Common.{None}
use mathlib.Core.List.{List, Memᴰ}
use native.Mathlib.Omega.{arith}
use lib.Dec.{ltb, eqb}
use lib.ListN.{length, get_or}
use borrow.Author.Tests.{ltb-true, lt-ltb, leb-false}
use Rattle.ground.specs.Believed.Choice.{pick}
use Rattle.ground.specs.Believed.Sequence.{All}
use Rattle.bitset.specs.Believed.Sets.{has, insert, set_of}
use Rattle.bitset.proofs.SetLaws.{has-none, has-below, set_of-same, insert-self, insert-other}
use Rattle.minutes.specs.Believed.Minutes.{E, Window}
use Rattle.minutes.specs.First.{minute_of}
use Rattle.hours.specs.Believed.Hours.{holds, never, ref_holds, dangling}
use Rattle.hours.specs.declared.HoursRef.{HoursRef}
use Rattle.hours.specs.declared.HoursRef.TheVariants.{Always, Numbered}
use Rattle.rota.specs.Believed.Rota.{Row, Rota, ref_on, role_hours, enabled, assigned, has_user, has_permission}
use Rattle.rota.specs.RotaWell.{RowWell, RotaWell}
use Rattle.rewrite_rules.specs.Believed.Rewriting.{fields, users_at, permissions_at, active, kept_as}
use Rattle.rewrite_rules.specs.Masks.{mask_of, slot_of, assigned_in, users_in, permissions_in, kept_in}
use Rattle.rewrite_rules.proofs.FieldLaws.{ends}
use Rattle.rewrite_rules.proofs.KeptLaws.{kept_by, kept-closed}

-- no role has anything where nothing holds
nothing-in : (ρ : Rota) (r : ℕ) → kept_in ρ r 0 ≡ None
unfolding kept_in
nothing-in ρ r = rw (has-none (slot_of (role_hours ρ r)))

-- the hours that hold at t, and always
abbrev held : Rota → ℕ → ℕ
held ρ t = insert (set_of (length ρ.hours) (λ k. holds ρ.cycle (get_or ρ.hours k never) t)) 32

module _ (ρ : Rota) (w : RotaWell ρ) (t : ℕ) (early : t < E) where
  slot_has : (h : HoursRef) → dangling (length ρ.hours) h ≡ false → has (held ρ t) (slot_of h) ≡ ref_on ρ h t
  unfolding slot_of ref_holds dangling
  slot_has Always d = insert-self _ 32 (omega arith) ∙ sym (lt-ltb t E early)
  slot_has (Numbered k) d =
      let l : k < length ρ.hours = leb-false (length ρ.hours) k d in
      insert-other _ 32 k (omega (arith, w.hours-most)) (λ e. omega (arith, w.hours-most)) ∙ has-below (length ρ.hours) _ k l

  rows-in : (top roles : ℕ) (rows : List Row) → All (RowWell top roles (length ρ.hours)) rows → (x r : ℕ)
      → assigned_in (held ρ t) rows x r ≡ assigned ρ rows x r t
  unfolding assigned_in assigned
  rows-in top roles rows all x r =
      some_same _ _ rows
      (λ y m. ap (λ (b : Bool). eqb y.number x && eqb y.role r && b) (slot_has y.hours (all_in _ rows all m).hours))

  users-in : (r : ℕ) → users_in ρ r (held ρ t) ≡ users_at ρ r t
  unfolding users_in users_at has_user
  users-in r = set_of-same ρ.users _ _ (λ u l. rows-in _ _ ρ.user-rows w.user-rows u r)

  permissions-in : (r : ℕ) → permissions_in ρ r (held ρ t) ≡ permissions_at ρ r t
  unfolding permissions_in permissions_at has_permission
  permissions-in r = set_of-same ρ.permissions _ _ (λ p l. rows-in _ _ ρ.permission-rows w.permission-rows p r)

  on_in : (r : ℕ) → r < length ρ.roles → has (held ρ t) (slot_of (role_hours ρ r)) ≡ enabled ρ r t
  unfolding enabled
  on_in r l = slot_has _ (all_in _ ρ.roles w.roles (at_in ρ.roles r _ l))

  held_kept : (r : ℕ) (f : Window) → r < length ρ.roles → kept_by ρ r f t ≡ kept_in ρ r (held ρ t)
  unfolding kept_in active
  held_kept r f l = rw (on_in r l, users-in r, permissions-in r)

-- what a field is kept as, by its mask
pub mask-kept : (ρ : Rota) → RotaWell ρ → (r : ℕ) → r < length ρ.roles → (f : Window) → Memᴰ f (fields ρ)
    → kept_as ρ r f ≡ kept_in ρ r (mask_of ρ f)
unfolding mask_of
mask-kept ρ w r l f m = kept-closed ρ r f w m ∙ go (ltb t f.end) refl
  where
    t : ℕ
    t = minute_of ρ.cycle f

    go : (b : Bool) → ltb t f.end ≡ b → pick b (kept_by ρ r f t) None ≡ kept_in ρ r (pick b (held ρ t) 0)
    go true e = held_kept ρ w t (omega (arith, ltb-true t f.end e, ends ρ w m)) r f l
    go false e = sym (nothing-in ρ r)
