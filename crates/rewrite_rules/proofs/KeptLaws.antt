-- When a field is kept for a role.
--     kept-is            by any one minute of the field
--     kept-none          a field without a minute is not kept: none before its end, kept-late
--     kept-minute        a kept field has a minute at which the role is active, and is then what is kept
--     kept-closed        by the first minute of the field, with no search
-- Assumes nothing.
use Rattle.ground.proofs.SearchLaws.{lowest-cases}
use Prim.Native.Nat.{ℕ, ◌+◌, ◌≤◌, ◌<◌}
use mathlib.Core.Path.{◌≡◌, refl, sym, ap, ◌∙◌}
use mathlib.Core.Bool.{Bool, true, false, ◌&&◌}
use Rattle.std.proofs.Common.{Option, None, Some}
use mathlib.Core.List.{Memᴰ}
use native.Mathlib.Omega.{arith}
use lib.Dec.{ltb}
use borrow.Author.Tests.{ltb-true, ltb-false}
use Rattle.ground.specs.Believed.Choice.{pick}
use Rattle.ground.proofs.BoolLaws.{pick_true, and_left, and_right, and_both}
use Rattle.minutes.specs.Believed.Minutes.{E, Window, covers}
use Rattle.minutes.specs.First.{minute_of}
use Rattle.minutes.proofs.WindowLaws.{covers-in, minute-in, minute-any}
use Rattle.rota.specs.Believed.Rota.{Rota}
use Rattle.rota.specs.RotaWell.{RotaWell}
use Rattle.rota.specs.Alike.{Alike}
use Rattle.table.specs.Believed.Table.{Entry}
use Rattle.rewrite_rules.specs.Believed.Rewriting.{fields, derived_at, active, derived_there, kept_as}
use Rattle.rewrite_rules.proofs.ConstancyLaws.{alike-derived, alike-active}
use Rattle.rewrite_rules.proofs.FieldLaws.{ends, wide, fits, field_alike}

module _ (ρ : Rota) (r : ℕ) (f : Window) where
  -- a minute at which the role is active
  pub record KeptAt (e : Entry) : Type 0 where
    pub minute : ℕ
    pub early : minute < E
    pub covered : covers ρ.cycle f minute ≡ true
    pub on : active ρ r minute ≡ true
    pub is : derived_at ρ r minute ≡ e

  pub kept-minute : (e : Entry) → kept_as ρ r f ≡ Some e → KeptAt e
  unfolding kept_as
  kept-minute e =
      lowest-cases (λ o. derived_there ρ r o ≡ Some e → KeptAt e) E (λ t. covers ρ.cycle f t && active ρ r t)
      (λ t l h k. record { minute = t; early = l; covered = and_left _ _ h; on = and_right (covers ρ.cycle f t) _ h; is = cc })
      (λ h k. let z : ◌≡◌ {A = ℕ} 0 1 = cc in absurd (omega arith))

  pub kept-none : ((t : ℕ) → t < E → covers ρ.cycle f t ≡ true → ⊥) → kept_as ρ r f ≡ None
  unfolding kept_as
  kept-none h =
      lowest-cases (λ o. derived_there ρ r o ≡ None) E (λ t. covers ρ.cycle f t && active ρ r t) (λ t l k. absurd (h t l (and_left _ _ k)))
      (λ _. refl)

  -- the same, by the first minute of the window
  pub kept-late : 0 < ρ.cycle → f.offset < f.offset + f.length → f.offset + f.length ≤ ρ.cycle → f.end ≤ minute_of ρ.cycle f
      → kept_as ρ r f ≡ None
  kept-late pos wide fits late = kept-none (λ t l h. omega (arith, minute-any ρ.cycle f pos wide fits t h))

  -- what a field is kept as by one of its minutes
  abbrev pub kept_by : ℕ → Option Entry
  kept_by t = pick (active ρ r t) (Some (derived_at ρ r t)) None

  module _ (w : RotaWell ρ) (m : Memᴰ f (fields ρ)) where
    pub kept-is : (t : ℕ) → covers ρ.cycle f t ≡ true → kept_as ρ r f ≡ kept_by t
    unfolding kept_as
    kept-is t h =
        lowest-cases (λ o. derived_there ρ r o ≡ kept_by t) E (λ s. covers ρ.cycle f s && active ρ r s)
        (λ s l k. found s (field_alike ρ w m s t (and_left _ _ k) h) (and_right (covers ρ.cycle f s) _ k)) (λ k. quiet k (active ρ r t) refl)
      where
        found : (s : ℕ) → Alike ρ s t → active ρ r s ≡ true → Some (derived_at ρ r s) ≡ kept_by t
        found s same on =
            ap {B = Option Entry} Some (alike-derived ρ s t same r) ∙ sym (pick_true _ _ None (sym (alike-active ρ s t same r) ∙ on))

        quiet : ((s : ℕ) → s < E → (covers ρ.cycle f s && active ρ r s) ≡ true → ⊥) → (b : Bool) → active ρ r t ≡ b → None ≡ pick b (Some (derived_at ρ r t)) None
        quiet k true e = absurd (k t (omega (arith, (covers-in h).to, ends ρ w m)) (and_both _ _ h e))
        quiet k false e = refl

    pub kept-closed : kept_as ρ r f ≡ pick (ltb (minute_of ρ.cycle f) f.end) (kept_by (minute_of ρ.cycle f)) None
    kept-closed = go (ltb (minute_of ρ.cycle f) f.end) refl
      where
        go : (b : Bool) → ltb (minute_of ρ.cycle f) f.end ≡ b → kept_as ρ r f ≡ pick b (kept_by (minute_of ρ.cycle f)) None
        go true e = kept-is _ (minute-in ρ.cycle f w.cycle-some (wide ρ w m) (fits ρ w m) (ltb-true _ _ e))
        go false e = kept-late w.cycle-some (wide ρ w m) (fits ρ w m) (ltb-false _ _ e)
