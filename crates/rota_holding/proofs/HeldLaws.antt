-- Those who hold a permission of an accepted rota do so as long as the hours records that they rest on.
--     cycle-is, cycle-some, cycle-most    the cycle of the layout
--     few-users, users-are                the users of the policy
--     held                                who holds a permission, and how far, by the hours records
-- Assumes nothing.
use Prim.Native.Nat.{ℕ, ◌+◌, ◌*◌, ◌≤◌, ◌<◌}
use mathlib.Core.Path.{◌≡◌, refl, sym, ap, ◌∙◌, subst}
use mathlib.Core.Bool.{true}
use mathlib.Core.List.{List}
use native.Mathlib.Omega.{arith}
use borrow.Author.Tests.{ltb-true}
use Rattle.ground.proofs.BoolLaws.{and_yes}
use Rattle.bitset.specs.Believed.Sets.{has, intersection}
use Rattle.bitset.proofs.SetLaws.{has-set_of}
use Rattle.minutes.specs.Believed.Minutes.{E}
use Rattle.hours.specs.Inside.{records_that, holding}
use Rattle.hours_times.specs.Spans.{RecordsSpan}
use Rattle.policy.specs.Believed.Policy.{holds_any}
use Rattle.policy.specs.Held.{HeldAmong}
use Rattle.policy.proofs.SteadyLaws.{holder}
use Rattle.rota.specs.Believed.Rota.{policy_of}
use Rattle.rota.specs.Believed.RotaBytes.{rota_of, cycle_of, users_of}
use Rattle.rota.specs.Inside.{Located}
use Rattle.rota.specs.declared.Layout.{Layout}
use Rattle.rota.proofs.LocatedLaws as located
use Rattle.rota_answers.specs.Gathered.{holders_by}
use Rattle.rota_answers.proofs.AskedLaws.{holders-at, held-as}
use Rattle.rota_answers.proofs.HoldersUp.{holders-up}
use Rattle.rota_holding.specs.Rests.{Resting}

module _ (s : List ℕ) (l : Layout) (w : Located s l) where
  pub cycle-is : l.counts.cycle ≡ cycle_of s
  cycle-is = (located.counted s l w).cycle

  pub cycle-some : 0 < cycle_of s
  cycle-some = (located.fine s l w).header.cycle-some

  pub cycle-most : l.counts.cycle ≤ 40320
  cycle-most = omega (arith, cycle-is, (located.fine s l w).header.cycle-most)

  pub few-users : (policy_of (rota_of s)).users ≤ 64
  unfolding rota_of
  few-users = (located.fine s l w).header.users-most

  pub users-are : (policy_of (rota_of s)).users ≡ users_of s
  unfolding rota_of
  users-are = refl

  -- the hours records that hold at t
  abbrev on_at : ℕ → ℕ
  on_at t = holding s l.counts.cycle l.hours_at l.counts.hours t

  on_below : (t k : ℕ) → has (on_at t) k ≡ true → k < l.counts.hours
  unfolding holding records_that
  on_below t k h = ltb-true _ _ (and_yes _ _ (sym (has-set_of l.counts.hours _ k) ∙ h)).0

  pub held : (t among : ℕ) → t < E → {set found on until era : ℕ} → set ≡ on_at t → Resting s set among found on
      → RecordsSpan s l.counts.cycle l.hours_at l.counts.hours t on until era
      → HeldAmong (policy_of (rota_of s)) (cycle_of s) among t found until era
  held t among early {set} {found} {on} {until} {era} es w₁ r =
      subst (λ (c : ℕ). HeldAmong (policy_of (rota_of s)) c among t found until era) cycle-is
      (record {
        is = w₁.is ∙ ap (intersection among) (holders-at s l w set t early (held-as s l w t set es) (holders_by s set) refl);
        lasts = λ u m h.
            record {
              each = λ v k a b d.
                  still u m (v + k * l.counts.cycle) (omega (arith, r.era-most))
                  (λ i z. let q = on-now i z in (r.lasts i (on_below t i q) z q).each v k a b d)
                  (w₁.rests u h);
            };
        after = r.after;
        longer = r.longer;
        era-most = r.era-most;
      })
    where
      -- a record that they rest on holds at t
      on-now : (i : ℕ) → has on i ≡ true → has (on_at t) i ≡ true
      on-now i z = ap (λ (n : ℕ). has n i) (sym es) ∙ w₁.within i z

      -- where the records hold at q that they rest on, whoever holds a permission by them does at q
      still : (u : ℕ) → u < (policy_of (rota_of s)).users → (q : ℕ) → q < E → ((i : ℕ) → has on i ≡ true → has (on_at q) i ≡ true)
          → has (holders_by s on) u ≡ true → holds_any (policy_of (rota_of s)) q u ≡ true
      still u m q n f h =
          sym (holder (policy_of (rota_of s)) q u m)
          ∙ ap (λ (z : ℕ). has z u) (sym (holders-at s l w (on_at q) q n (held-as s l w q _ refl) _ refl))
          ∙ holders-up s on (on_at q) f u h
