-- A rota with its rows in order, each once.
--     tidy_one                                    rotas that differ in the order and the repeats of their rows alone become one rota
--     same-tidy, tidy-same-rota                   the same, by sets of rows, and the other way round: they become one rota only if they differ so
--     tidy-rota-well                              a rota that keeps the layout still keeps it
--     tidy-enabled, tidy-user, tidy-permission    its roles are enabled when they were, and have the users and the permissions that they had
--     tidy-through, tidy-answer                   so each role lets through what it did, and every answer is the same
--     tidy-twice, tidy-stays                      done again, it makes no difference; nor with a rota of format 3
-- Assumes nothing.
use Prim.Native.Nat.{ℕ, ◌≤◌}
use mathlib.Core.Path.{◌≡◌, refl, sym, ap, ◌∙◌}
use mathlib.Core.Logic.{inr, ◌↔◌}
use mathlib.Core.Bool.{true, ◌&&◌}
use mathlib.Core.List.{List, Memᴰ}
use native.Mathlib.Omega.{arith}
use lib.ListN.{length}
use Rattle.ground.specs.Believed.Sequence.{All}
use Rattle.ground.proofs.BoolLaws.{eq-ext}
use Rattle.ground.proofs.ListLaws.{all_in}
use Rattle.ground.proofs.SearchLaws.{lowest-same}
use Rattle.rota.specs.Believed.Rota.{Row, Rota, enabled, assigned, has_user, has_permission, through, answer}
use Rattle.rota.specs.RotaWell.{RowWell, RotaWell}
use Rattle.tidy_rules.specs.Believed.Tidy.{there, tidy_rows, tidy}
use Rattle.tidy_rules.specs.Believed.Same.{Same}
use Rattle.tidy_rules.proofs.OrderLaws.{there-in, there_out}
use Rattle.tidy_rules.proofs.TidyLaws.{tidy-same, tidy-ascends, tidy-takes, tidy-well, tidy-assigned, tidy-fewer, tidy-tidy, tidy-in, tidy-out}

pub tidy_one : (ρ σ : Rota) → ρ.cycle ≡ σ.cycle → ρ.users ≡ σ.users → ρ.permissions ≡ σ.permissions → ρ.hours ≡ σ.hours
    → ρ.roles ≡ σ.roles → ((k : ℕ) → there ρ.user-rows k ≡ there σ.user-rows k)
    → ((k : ℕ) → there ρ.permission-rows k ≡ there σ.permission-rows k) → tidy ρ ≡ tidy σ
unfolding tidy
tidy_one ρ σ c u p h r us ps =
    let vs = tidy-same ρ.user-rows σ.user-rows us in
    let ws = tidy-same ρ.permission-rows σ.permission-rows ps in
    λ i. record { format = 3; cycle = c i; users = u i; permissions = p i; hours = h i; roles = r i; user-rows = vs i; permission-rows = ws i }

pub tidy-enabled : (ρ : Rota) (r t : ℕ) → enabled (tidy ρ) r t ≡ enabled ρ r t
unfolding tidy enabled
tidy-enabled ρ r t = refl

module _ (ρ : Rota) (w : RotaWell ρ) where
  -- there are few enough that their numbers are bytes
  users-few : ρ.users ≤ 256
  users-few = omega (arith, w.users-most)

  permissions-few : ρ.permissions ≤ 256
  permissions-few = omega (arith, w.permissions-most)

  roles-few : length ρ.roles ≤ 256
  roles-few = omega (arith, w.roles-most)

  hours-few : length ρ.hours ≤ 255
  hours-few = omega (arith, w.hours-most)

  pub tidy-rota-well : RotaWell (tidy ρ)
  unfolding tidy
  tidy-rota-well =
      record {
        format = inr refl;
        cycle-some = w.cycle-some;
        cycle-most = w.cycle-most;
        hours-most = w.hours-most;
        users-most = w.users-most;
        permissions-most = w.permissions-most;
        roles-most = w.roles-most;
        user-rows-most = omega (arith, tidy-fewer ρ.user-rows, w.user-rows-most);
        permission-rows-most = omega (arith, tidy-fewer ρ.permission-rows, w.permission-rows-most);
        hours = w.hours;
        pairs-most = w.pairs-most;
        roles = w.roles;
        user-rows = tidy-well _ _ _ users-few roles-few hours-few _ w.user-rows;
        permission-rows = tidy-well _ _ _ permissions-few roles-few hours-few _ w.permission-rows;
        users-ordered = λ _. tidy-ascends ρ.user-rows;
        permissions-ordered = λ _. tidy-ascends ρ.permission-rows;
      }

  pub tidy-user : (u r t : ℕ) → has_user (tidy ρ) u r t ≡ has_user ρ u r t
  unfolding tidy has_user assigned
  tidy-user u r t = tidy-assigned _ _ _ users-few roles-few hours-few _ w.user-rows ρ u r t

  pub tidy-permission : (p r t : ℕ) → has_permission (tidy ρ) p r t ≡ has_permission ρ p r t
  unfolding tidy has_permission assigned
  tidy-permission p r t = tidy-assigned _ _ _ permissions-few roles-few hours-few _ w.permission-rows ρ p r t

  pub tidy-through : (u p t r : ℕ) → through (tidy ρ) u p t r ≡ through ρ u p t r
  unfolding through
  tidy-through u p t r = λ i. tidy-enabled ρ r t i && tidy-user u r t i && tidy-permission p r t i

  pub tidy-answer : (u p t : ℕ) → answer (tidy ρ) u p t ≡ answer ρ u p t
  unfolding answer tidy
  tidy-answer u p t = lowest-same (length ρ.roles) (through (tidy ρ) u p t) (through ρ u p t) (λ r _. tidy-through u p t r)

  pub tidy-twice : tidy (tidy ρ) ≡ tidy ρ
  unfolding tidy
  tidy-twice =
      tidy_one (tidy ρ) ρ refl refl refl refl refl
      (tidy-takes _ _ _ users-few roles-few hours-few _ w.user-rows)
      (tidy-takes _ _ _ permissions-few roles-few hours-few _ w.permission-rows)

  -- a rota of format 3 is tidy already
  pub tidy-stays : ρ.format ≡ 3 → tidy ρ ≡ ρ
  unfolding tidy
  tidy-stays e =
      let vs = tidy-tidy _ _ _ users-few roles-few hours-few _ w.user-rows (w.users-ordered e) in
      let ws = tidy-tidy _ _ _ permissions-few roles-few hours-few _ w.permission-rows (w.permissions-ordered e) in
      λ i. record { format = sym e i; cycle = ρ.cycle; users = ρ.users; permissions = ρ.permissions; hours = ρ.hours; roles = ρ.roles; user-rows = vs i; permission-rows = ws i }

-- the places taken say which rows there are, and the rows which places are taken
there-by : (rows others : List Row) → ((w : Row) → Memᴰ w rows → Memᴰ w others) → (k : ℕ) → there rows k ≡ true → there others k ≡ true
there-by rows others h k e = let z = there_out rows k e in ap (there others) (sym z.2) ∙ there-in (h z.0 z.1)

there-same : (rows others : List Row) → ((w : Row) → Memᴰ w rows ↔ Memᴰ w others) → (k : ℕ) → there rows k ≡ there others k
there-same rows others h k =
    eq-ext (there rows k) (there others k) (there-by rows others (λ w. (h w).0) k) (there-by others rows (λ w. (h w).1) k)

module _ (ρ σ : Rota) where
  pub same-tidy : Same ρ σ → tidy ρ ≡ tidy σ
  same-tidy e =
      tidy_one ρ σ e.cycle e.users e.permissions e.hours e.roles
      (there-same ρ.user-rows σ.user-rows e.user-rows) (there-same ρ.permission-rows σ.permission-rows e.permission-rows)

  -- rows that are kept through the order are kept from one rota to the other
  rows-kept : (top roles h top' roles' h' : ℕ) → top ≤ 256 → roles ≤ 256 → h ≤ 255 → top' ≤ 256 → roles' ≤ 256 → h' ≤ 255 → (rows others : List Row)
      → All (RowWell top roles h) rows → All (RowWell top' roles' h') others → tidy_rows rows ≡ tidy_rows others
      → (w : Row) → Memᴰ w rows → Memᴰ w others
  rows-kept top roles h top' roles' h' a b c a' b' c' rows others p q e w m =
      let there : Memᴰ w (tidy_rows others) = rw (← e) (tidy-in top roles h a b c rows p m) in
      all_in (λ (v : Row). Memᴰ v others) (tidy_rows others) (tidy-out top' roles' h' a' b' c' others q) there

  pub tidy-same-rota : RotaWell ρ → RotaWell σ → tidy ρ ≡ tidy σ → Same ρ σ
  unfolding tidy
  tidy-same-rota v w e =
      let us = ap (λ (x : Rota). x.user-rows) e in
      let ps = ap (λ (x : Rota). x.permission-rows) e in
      record {
        cycle = ap (λ (x : Rota). x.cycle) e;
        users = ap (λ (x : Rota). x.users) e;
        permissions = ap (λ (x : Rota). x.permissions) e;
        hours = ap (λ (x : Rota). x.hours) e;
        roles = ap (λ (x : Rota). x.roles) e;
        user-rows = λ x. (
          rows-kept _ _ _ _ _ _ (users-few ρ v) (roles-few ρ v) (hours-few ρ v) (users-few σ w) (roles-few σ w) (hours-few σ w) _ _ v.user-rows w.user-rows us x,
          rows-kept _ _ _ _ _ _ (users-few σ w) (roles-few σ w) (hours-few σ w) (users-few ρ v) (roles-few ρ v) (hours-few ρ v) _ _ w.user-rows v.user-rows (sym us) x,
        );
        permission-rows = λ x. (
          rows-kept _ _ _ _ _ _ (permissions-few ρ v) (roles-few ρ v) (hours-few ρ v) (permissions-few σ w) (roles-few σ w) (hours-few σ w) _ _ v.permission-rows w.permission-rows ps x,
          rows-kept _ _ _ _ _ _ (permissions-few σ w) (roles-few σ w) (hours-few σ w) (permissions-few ρ v) (roles-few ρ v) (hours-few ρ v) _ _ w.permission-rows v.permission-rows (sym ps) x,
        );
      }
