-- What lasts: whole cycles are skipped.
--     lasting-at          each minute of the stretch
--     lasting-shorter     what lasts, lasts for less
--     lasting-on          two stretches, one after the other
--     lasting-turned      what lasts for a cycle lasts to the era's end
--     phase-on            the phase goes on with the minutes, to the turn of the cycle
--     phase-turned        and is the same a number of cycles later
-- Assumes nothing.
use Prim.Native.Nat.{ℕ, ◌+◌, ◌-◌, ◌*◌, ◌/◌, ◌%◌, ◌≤◌, ◌<◌}
use mathlib.Core.Path.{◌≡◌, ap, ◌∙◌, subst}
use mathlib.Core.Logic.{⊎_elim}
use mathlib.Core.Bool.{Bool, true}
use native.Mathlib.Nat.{div-add-mod', mod-lt}
use native.Mathlib.Omega.{arith}
use lib.Arith.{digits_mod}
use Rattle.ground.proofs.BoolLaws.{lt-or-le}
use Rattle.minutes.specs.Lasting.{Lasting}

module _ {f : ℕ → Bool} {c t until era : ℕ} (l : Lasting f c t until era) where
  pub lasting-at : (v : ℕ) → t ≤ v → v < until → v < era → f v ≡ true
  lasting-at v a b d = let e : v + 0 * c ≡ v = omega arith in subst (λ (w : ℕ). f w ≡ true) e (l.each v 0 a b (omega arith))

  pub lasting-shorter : {t' until' era' : ℕ} → t ≤ t' → until' ≤ until → era' ≤ era → Lasting f c t' until' era'
  lasting-shorter a b d = record { each = λ v k p q r. l.each v k (omega arith) (omega arith) (omega arith) }

  pub lasting-on : {until' era' : ℕ} → Lasting f c until until' era' → era' ≤ era → Lasting f c t until' era'
  lasting-on m d =
      record {
        each = λ v k p q r.
            ⊎_elim
            (λ (b : v < until). l.each v k p b (omega arith))
            (λ (b : until ≤ v). m.each v k b q r)
            (lt-or-le v until);
      }

  pub lasting-turned : 0 < c → t + c ≤ until → (v : ℕ) → t ≤ v → v < era → f v ≡ true
  lasting-turned pos far v a b =
      let e : t + (v - t) % c + (v - t) / c * c ≡ v = omega (arith, div-add-mod' (v - t) c) in
      subst (λ (w : ℕ). f w ≡ true) e
      (l.each (t + (v - t) % c) ((v - t) / c) (omega arith) (omega (arith, mod-lt (v - t) pos)) (omega (arith, e)))

pub phase-on : (c t v : ℕ) → t ≤ v → t % c + (v - t) < c → v % c ≡ t % c + (v - t)
phase-on c t v l m =
    let e : v ≡ t / c * c + (t % c + (v - t)) = omega (arith, div-add-mod' t c) in
    ap (λ (w : ℕ). w % c) e ∙ digits_mod (t / c) m

pub phase-turned : (c v k : ℕ) → 0 < c → (v + k * c) % c ≡ v % c
phase-turned c v k pos =
    let e : v + k * c ≡ (v / c + k) * c + v % c = omega (arith, div-add-mod' v c) in
    ap (λ (w : ℕ). w % c) e ∙ digits_mod (v / c + k) (mod-lt v pos)
