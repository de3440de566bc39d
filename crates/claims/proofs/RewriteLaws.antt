-- The table of a rota with its rows in order, each once, is the rota's own table: the rules read the rows only through the users and the permissions
-- that a role has at a minute.
--     tidy-users-at, tidy-permissions-at, tidy-active    what a role has at a minute, and when it is active
--     tidy-fields, tidy-kept-as, tidy-kept               the fields, and what they are kept as
--     tidy-unjoined, tidy-rewrite                        the table before neighbouring rows that touch are joined, and after
-- Assumes nothing.
use Prim.Native.Nat.{ℕ, zero, suc}
use mathlib.Core.Path.{◌≡◌, refl}
use mathlib.Core.Bool.{not, ◌&&◌}
use Rattle.std.proofs.Common.{Option, None, Some}
use mathlib.Core.List.{List, [], ◌∷◌, ◌++◌, map}
use lib.Dec.{eqb}
use lib.ListN.{length}
use Rattle.ground.specs.Believed.Search.{lowest_below}
use Rattle.bitset.specs.Believed.Sets.{set_of}
use Rattle.minutes.specs.Believed.Minutes.{E, Window, covers}
use Rattle.rota.specs.Believed.Rota.{Rota}
use Rattle.rota.specs.RotaWell.{RotaWell}
use Rattle.rewrite_rules.specs.Believed.Joined.{join_rows}
use Rattle.rewrite_rules.specs.Believed.Rewriting.{era_cuts, cell_cuts, fields, users_at, permissions_at, active, derived_there, kept_as, keep, kept_of, kept_from, kept, entries_of, row_of, unjoined, rewrite}
use Rattle.tidy_rules.specs.Believed.Tidy.{tidy}
use Rattle.tidy_rules.proofs.RotaLaws.{tidy-enabled, tidy-user, tidy-permission}

pub tidy-fields : (ρ : Rota) → fields (tidy ρ) ≡ fields ρ
unfolding tidy fields era_cuts cell_cuts
tidy-fields ρ = refl

module _ (ρ : Rota) (w : RotaWell ρ) where
  pub tidy-users-at : (r t : ℕ) → users_at (tidy ρ) r t ≡ users_at ρ r t
  unfolding tidy users_at
  tidy-users-at r t = λ i. set_of ρ.users (λ u. tidy-user ρ w u r t i)

  pub tidy-permissions-at : (r t : ℕ) → permissions_at (tidy ρ) r t ≡ permissions_at ρ r t
  unfolding tidy permissions_at
  tidy-permissions-at r t = λ i. set_of ρ.permissions (λ p. tidy-permission ρ w p r t i)

  pub tidy-active : (r t : ℕ) → active (tidy ρ) r t ≡ active ρ r t
  unfolding active
  tidy-active r t = λ i. tidy-enabled ρ r t i && not (eqb (tidy-users-at r t i) 0) && not (eqb (tidy-permissions-at r t i) 0)

  derived-there : (r : ℕ) (o : Option ℕ) → derived_there (tidy ρ) r o ≡ derived_there ρ r o
  derived-there r None = refl
  derived-there r (Some t) = λ i. Some (record { source = r; users = tidy-users-at r t i; permissions = tidy-permissions-at r t i })

  pub tidy-kept-as : (r : ℕ) (f : Window) → kept_as (tidy ρ) r f ≡ kept_as ρ r f
  unfolding tidy kept_as
  tidy-kept-as r f = λ i. derived-there r (lowest_below E (λ t. covers ρ.cycle f t && tidy-active r t i)) i

  kept-of : (r : ℕ) (fs : List Window) → kept_of (tidy ρ) r fs ≡ kept_of ρ r fs
  unfolding kept_of
  kept-of r [] = refl
  kept-of r (f ∷ fs) = λ i. keep (tidy-kept-as r f i) f (kept-of r fs i)

  kept-from : (n r : ℕ) → kept_from (tidy ρ) n r ≡ kept_from ρ n r
  unfolding kept_from
  kept-from zero r = refl
  kept-from (suc n) r = λ i. kept-of r (tidy-fields ρ i) i ++ kept-from n (suc r) i

  pub tidy-kept : kept (tidy ρ) ≡ kept ρ
  unfolding tidy kept
  tidy-kept = kept-from (length ρ.roles) 0

  pub tidy-unjoined : unjoined (tidy ρ) ≡ unjoined ρ
  unfolding tidy unjoined
  tidy-unjoined =
      λ i. record {
        cycle = ρ.cycle;
        users = ρ.users;
        permissions = ρ.permissions;
        roles = length ρ.roles;
        entries = entries_of (tidy-kept i);
        rows = map (row_of (entries_of (tidy-kept i))) (tidy-kept i);
      }

  pub tidy-rewrite : rewrite (tidy ρ) ≡ rewrite ρ
  unfolding rewrite
  tidy-rewrite =
      λ i. let τ = tidy-unjoined i in
      record { cycle = τ.cycle; users = τ.users; permissions = τ.permissions; roles = τ.roles; entries = τ.entries; rows = join_rows τ.rows }
