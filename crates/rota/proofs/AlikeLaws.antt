-- Where no hours tell two minutes apart, nothing that is said in terms of hours does.
--     alike-enabled, alike-user, alike-permission     what a role has
--     alike-answer, alike-holders                     what is answered
-- Assumes nothing.
use Prim.Native.Nat.{ℕ}
use mathlib.Core.Path.{◌≡◌, ap}
use mathlib.Core.Bool.{Bool, ◌&&◌}
use Rattle.std.proofs.Common.{Option}
use mathlib.Core.List.{List}
use lib.Dec.{eqb}
use lib.ListN.{length}
use Rattle.ground.proofs.ListLaws.{some_same}
use Rattle.ground.proofs.SearchLaws.{any_same, lowest-same}
use Rattle.bitset.proofs.SetLaws.{set_of-same}
use Rattle.policy.specs.Believed.Policy.{is_yes, holds_any, holders_at}
use Rattle.rota.specs.Believed.Rota.{Row, Rota, role_hours, enabled, assigned, has_user, has_permission, through, answer, policy_of}
use Rattle.rota.specs.Alike.{Alike}

module _ (ρ : Rota) (s t : ℕ) (same : Alike ρ s t) where
  pub alike-enabled : (r : ℕ) → enabled ρ r s ≡ enabled ρ r t
  unfolding enabled
  alike-enabled r = same (role_hours ρ r)

  alike-assigned : (rows : List Row) (x r : ℕ) → assigned ρ rows x r s ≡ assigned ρ rows x r t
  unfolding assigned
  alike-assigned rows x r = some_same _ _ rows (λ w m. ap (λ (b : Bool). eqb w.number x && eqb w.role r && b) (same w.hours))

  pub alike-user : (u r : ℕ) → has_user ρ u r s ≡ has_user ρ u r t
  unfolding has_user
  alike-user = alike-assigned ρ.user-rows

  pub alike-permission : (p r : ℕ) → has_permission ρ p r s ≡ has_permission ρ p r t
  unfolding has_permission
  alike-permission = alike-assigned ρ.permission-rows

  alike-through : (u p r : ℕ) → through ρ u p s r ≡ through ρ u p t r
  unfolding through
  alike-through u p r = rw (alike-enabled r, alike-user u r, alike-permission p r)

  pub alike-answer : (u p : ℕ) → answer ρ u p s ≡ answer ρ u p t
  unfolding answer
  alike-answer u p = lowest-same (length ρ.roles) _ _ (λ r l. alike-through u p r)

  pub alike-holders : holders_at (policy_of ρ) s ≡ holders_at (policy_of ρ) t
  unfolding holders_at holds_any
  alike-holders = set_of-same ρ.users _ _ (λ u l. any_same ρ.permissions _ _ (λ p m. ap {A = Option ℕ} is_yes (alike-answer u p)))
