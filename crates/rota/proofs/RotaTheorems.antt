-- Which bytes are a rota (document 01, "The rota's bytes", "Refusals by operation").
--     accepted-iff      bytes are accepted exactly when they spell a rota that keeps the layout
--     accepted-well, accepted-bytes, spelled-bytes, spelled-accepted      its parts
--     read-back         reading what spells such a rota gives it back
--     unique            two such rotas with the same bytes are one
--     yes_iff, no_iff   when the answer is yes, through which role, and when it is no
--     past-never        a role past the last is never enabled
-- Assumes nothing.
use mathlib.Core.Path.{◌≡◌, refl, sym, ◌∙◌, ap}
use Prim.Native.Nat.{ℕ, ◌<◌, ◌≤◌}
use mathlib.Core.Bool.{Bool, true, false, ◌&&◌}
use Rattle.std.proofs.Common.{None, Some}
use native.Mathlib.Nat.{lt_trans}
use native.Mathlib.Omega.{arith}
use lib.Dec.{leb, ltb}
use lib.ListN.{length, get_or-eq_default}
use Rattle.ground.specs.Believed.Search.{any}
use Rattle.ground.proofs.BoolLaws.{and-three, and-all, eq-ext, clash}
use Rattle.ground.proofs.SearchLaws.{lowest-is, lowest-none, lowest-out, lowest-no}
use mathlib.Core.Logic.{◌↔◌}
use mathlib.Core.List.{List}
use Rattle.endian.specs.Believed.Numbers.{Bytes}
use Rattle.hours.specs.Believed.Hours.{holds, ref_holds, never}
use Rattle.hours.specs.declared.HoursRef.{HoursRef}
use Rattle.hours.specs.declared.HoursRef.TheVariants.{Numbered}
use Rattle.rota.specs.Believed.Rota.{Rota, ref_on, enabled, has_user, has_permission, through, answer}
use Rattle.rota.specs.Believed.RotaBytes.{rota_bytes, rota_of}
use Rattle.rota.specs.Believed.RotaRefusals.{rota_judged}
use Rattle.rota.specs.RotaWell.{RotaWell}
use Rattle.rota.specs.Through.{Through}
use Rattle.rota.proofs.RotaWellLaws.{judged-iff}
use Rattle.rota.proofs.RotaBytesLaws.{read-laid, in-rota, spell-rota}

module _ (ρ : Rota) (u p t r : ℕ) where
  through-in : Through ρ u p t r → through ρ u p t r ≡ true
  unfolding through
  through-in w = and-all (enabled ρ r t) (has_user ρ u r t) (has_permission ρ p r t) w.on w.user w.permission

  through-out : r < length ρ.roles → through ρ u p t r ≡ true → Through ρ u p t r
  unfolding through
  through-out l h =
      let a = and-three (enabled ρ r t) (has_user ρ u r t) (has_permission ρ p r t) h in
      record { below = l; on = a.0; user = a.1; permission = a.2 }

-- no record has its number, and hours that are not there hold at no minute
pub past-never : (ρ : Rota) (r t : ℕ) → length ρ.roles ≤ r → enabled ρ r t ≡ false
unfolding enabled ref_holds holds
past-never ρ r t l =
    ap (λ (h : HoursRef). ref_on ρ h t) (get_or-eq_default ρ.roles (Numbered (length ρ.hours)) l)
    ∙ ap (λ h. holds ρ.cycle h t) (get_or-eq_default ρ.hours never (omega arith)) ∙ none-hold t
  where
    neither : (a b : Bool) → (a && b && false) ≡ false
    neither true true = refl
    neither true false = refl
    neither false b = refl

    none-hold : (t : ℕ) → holds ρ.cycle never t ≡ false
    none-hold t = unfold holds any in neither (leb 0 t) (ltb t 0)

-- the rota that accepted bytes spell keeps the layout
pub accepted-well : (s : List ℕ) → rota_judged s ≡ 0 → RotaWell (rota_of s)
accepted-well s a = ((judged-iff s).0 a).1

-- and is spelled by those bytes
pub accepted-bytes : (s : List ℕ) → Bytes s → rota_judged s ≡ 0 → rota_bytes (rota_of s) ≡ s
accepted-bytes s b a = spell-rota s b ((judged-iff s).0 a).0

-- the bytes of a rota that keeps the layout spell it
pub read_back : (ρ : Rota) → RotaWell ρ → rota_of (rota_bytes ρ) ≡ ρ
read_back ρ w = (read-laid ρ w).1

-- they are bytes
pub spelled-bytes : (ρ : Rota) → RotaWell ρ → Bytes (rota_bytes ρ)
spelled-bytes ρ w = (in-rota ρ w).each

-- and are accepted
pub spelled-accepted : (ρ : Rota) → RotaWell ρ → rota_judged (rota_bytes ρ) ≡ 0
spelled-accepted ρ w = (judged-iff (rota_bytes ρ)).1 ((read-laid ρ w).0, rw (read_back ρ w) w)

-- a rota is accepted exactly when it keeps the layout
pub accepted-iff : (s : List ℕ) → Bytes s → (rota_judged s ≡ 0) ↔ ((ρ : Rota) × RotaWell ρ × (rota_bytes ρ ≡ s))
accepted-iff s b = (
  (λ a. (rota_of s, accepted-well s a, accepted-bytes s b a)),
  (λ w. rw (← w.2) (spelled-accepted w.0 w.1)),
)

-- no two rotas that keep the layout have the same bytes
pub unique : (ρ σ : Rota) → RotaWell ρ → RotaWell σ → rota_bytes ρ ≡ rota_bytes σ → ρ ≡ σ
unique ρ σ v w e = sym (read_back ρ v) ∙ ap rota_of e ∙ read_back σ w

-- the answer is yes r exactly when r is enabled, has the user and has the permission at that minute, and no lower role does
pub yes_iff : (ρ : Rota) (u p t r : ℕ) → (answer ρ u p t ≡ Some r) ↔ (Through ρ u p t r × ((q : ℕ) → q < r → Through ρ u p t q → ⊥))
unfolding answer
yes_iff ρ u p t r = (
  (λ e.
      let z = lowest-out (through ρ u p t) (length ρ.roles) r e in
      (through-out ρ u p t r z.0 z.1, λ q l w. clash (through ρ u p t q) (through-in ρ u p t q w) (z.2 q l))),
  (λ w.
      lowest-is (through ρ u p t) (length ρ.roles) r w.0.below (through-in ρ u p t r w.0)
      (λ q l. eq-ext (through ρ u p t q) false (λ h. absurd (w.1 q l (through-out ρ u p t q (lt_trans l w.0.below) h))) (λ h. clash false h refl))),
)

-- and no exactly when there is no such role
pub no_iff : (ρ : Rota) (u p t : ℕ) → (answer ρ u p t ≡ None) ↔ ((r : ℕ) → Through ρ u p t r → ⊥)
unfolding answer
no_iff ρ u p t = (
  (λ e r w. clash (through ρ u p t r) (through-in ρ u p t r w) (lowest-no (through ρ u p t) (length ρ.roles) e r w.below)),
  (λ h.
      lowest-none (through ρ u p t) (length ρ.roles)
      (λ r l. eq-ext (through ρ u p t r) false (λ e. absurd (h r (through-out ρ u p t r l e))) (λ e. clash false e refl))),
)
