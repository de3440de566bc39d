-- From the sets that the code gathers to the meaning of the rota that the bytes spell, at a minute t below E.
--     on-is, given_is                    a role is enabled; a row gives a role
--     through-is, holders-are            the roles of a question, and the users who hold any permission
-- Assumes nothing.
use Prim.Native.Nat.{ℕ, ◌≤◌, ◌<◌}
use mathlib.Core.Path.{◌≡◌, refl, sym, ap, ap₂, ◌∙◌}
use mathlib.Core.Bool.{Bool, true, ◌&&◌}
use mathlib.Core.List.{List}
use native.Mathlib.Omega.{arith}
use borrow.Author.Tests.{eqb-true, eq-eqb}
use lib.Dec.{eqb}
use lib.ListN.{length}
use Rattle.ground.specs.Believed.Sequence.{list_of}
use Rattle.ground.specs.Believed.Search.{any_below, lowest_below}
use Rattle.ground.proofs.BoolLaws.{eq-ext, and-swap, and_yes, and_both, and-three, and-all}
use Rattle.ground.proofs.SearchLaws.{any_same, any-stop, any_out, list_any}
use Rattle.ground.proofs.SequenceLaws.{list_of-length, get-list_of}
use Rattle.bitset.specs.Believed.Sets.{has, set_of, intersection}
use Rattle.bitset.proofs.SetLaws.{intersection-set_of, set_of-same, has-below}
use Rattle.minutes.specs.Believed.Minutes.{E}
use Rattle.hours.specs.Inside.{holding, ref_in}
use Rattle.hours.specs.declared.HoursRef.{HoursRef}
use Rattle.hours.specs.declared.HoursRef.TheVariants.{Numbered}
use Rattle.hours_reader.proofs.RefLaws.{ref-in}
use Rattle.policy.specs.Believed.Policy.{is_yes, holds_any, holders_at}
use Rattle.policy.proofs.PolicyLaws.{yes-is}
use Rattle.rota.specs.Believed.Rota.{enabled, assigned, has_user, has_permission, through, answer, policy_of}
use Rattle.rota.specs.Believed.RotaBytes.{header_length, cycle_of, hours_of, users_of, permissions_of, roles_of, user_rows_of, permission_rows_of, user_rows_at, permission_rows_at, role_ref, row_at, rota_of}
use Rattle.rota.specs.Believed.RotaRefusals.{rota_judged}
use Rattle.rota_answers.specs.Gathered.{RowsFine, row_in, roles_of_number, roles_assigned, roles_enabled, users_with}
use Rattle.rota.proofs.RotaFine.{RotaFine, rota-fine}

-- the rows of an accepted rota keep their ranges
module _ (s : List ℕ) (acc : rota_judged s ≡ 0) where
  pub user-rows-of : RowsFine s (users_of s) (user_rows_at s) (user_rows_of s)
  user-rows-of = let f = rota-fine s acc in record { within = omega (arith, f.ended); each = f.user-rows }

  pub permission-rows-of : RowsFine s (permissions_of s) (permission_rows_at s) (permission_rows_of s)
  permission-rows-of = let f = rota-fine s acc in record { within = omega (arith, f.ended); each = f.permission-rows }

module _ (s : List ℕ) (t set : ℕ) (acc : rota_judged s ≡ 0) (early : t < E) (es : set ≡ holding s (cycle_of s) (header_length s) (hours_of s) t) where
  fine : RotaFine s
  fine = rota-fine s acc

  -- role r is enabled
  on-is : (r : ℕ) → r < roles_of s → ref_in set (role_ref s r) ≡ enabled (rota_of s) r t
  unfolding enabled rota_of
  on-is r l =
      ref-in s _ _ _ t set (role_ref s r) early es (fine.roles r l)
      ∙ ap (λ (q : HoursRef). ref_holds_of q) (sym (get-list_of (roles_of s) (role_ref s) (Numbered (length (rota_of s).hours)) r l))
    where
      ref_holds_of : HoursRef → Bool
      ref_holds_of q = Rattle.rota.specs.Believed.Rota.ref_on (rota_of s) q t

  -- row k gives a role at t
  row_is : (top at n : ℕ) → RowsFine s top at n → (k : ℕ) → k < n → row_in s set at k ≡ Rattle.rota.specs.Believed.Rota.ref_on (rota_of s) (row_at s at k).hours t
  unfolding rota_of
  row_is top at n f k l = ref-in s _ _ _ t set (row_at s at k).hours early es (f.each k l).hours

  -- some of the n rows from `at` on gives role r to number x
  given_is : (top at n x r : ℕ) → RowsFine s top at n
      → any_below n (λ k. eqb (row_at s at k).number x && row_in s set at k && eqb (row_at s at k).role r) ≡ assigned (rota_of s) (list_of n (row_at s at)) x r t
  unfolding assigned
  given_is top at n x r f =
      any_same n _ _
      (λ k l. and-swap (eqb (row_at s at k).number x) (row_in s set at k) (eqb (row_at s at k).role r)
      ∙ ap (λ (b : Bool). eqb (row_at s at k).number x && eqb (row_at s at k).role r && b) (row_is top at n f k l))
      ∙ sym (list_any _ n (row_at s at))

  user-is : (u r : ℕ) → RowsFine s (users_of s) (user_rows_at s) (user_rows_of s)
      → any_below (user_rows_of s) (λ k. eqb (row_at s (user_rows_at s) k).number u && row_in s set (user_rows_at s) k && eqb (row_at s (user_rows_at s) k).role r) ≡ has_user (rota_of s) u r t
  unfolding has_user rota_of
  user-is u r f = given_is _ _ _ u r f

  permission-is : (p r : ℕ) → RowsFine s (permissions_of s) (permission_rows_at s) (permission_rows_of s)
      → any_below (permission_rows_of s) (λ k. eqb (row_at s (permission_rows_at s) k).number p && row_in s set (permission_rows_at s) k && eqb (row_at s (permission_rows_at s) k).role r) ≡ has_permission (rota_of s) p r t
  unfolding has_permission rota_of
  permission-is p r f = given_is _ _ _ p r f

  user-rows : RowsFine s (users_of s) (user_rows_at s) (user_rows_of s)
  user-rows = user-rows-of s acc

  permission-rows : RowsFine s (permissions_of s) (permission_rows_at s) (permission_rows_of s)
  permission-rows = permission-rows-of s acc

  -- the roles of a question
  pub through-is : (u p : ℕ)
      → intersection (intersection (roles_enabled s set (roles_of s)) (roles_of_number s set (user_rows_at s) (user_rows_of s) u)) (roles_of_number s set (permission_rows_at s) (permission_rows_of s) p)
      ≡ set_of (roles_of s) (through (rota_of s) u p t)
  unfolding roles_enabled roles_of_number through
  through-is u p =
      let small : roles_of s ≤ 64 = omega (arith, fine.header.roles-most) in
      ap (λ (x : ℕ). intersection x (roles_of_number s set (permission_rows_at s) (permission_rows_of s) p)) (intersection-set_of (roles_of s) _ _ small)
      ∙ intersection-set_of (roles_of s) _ _ small
      ∙ set_of-same (roles_of s) _ _ (λ r l. ap₂ ◌&&◌ (ap₂ ◌&&◌ (on-is r l) (user-is u r user-rows)) (permission-is p r permission-rows))

  -- the enabled roles that have a permission
  live : ℕ
  live = intersection (roles_enabled s set (roles_of s)) (roles_assigned s set (permission_rows_at s) (permission_rows_of s))

  has-live : (r : ℕ) → r < roles_of s
      → has live r ≡ (enabled (rota_of s) r t && any_below (permission_rows_of s) (λ k. row_in s set (permission_rows_at s) k && eqb (row_at s (permission_rows_at s) k).role r))
  unfolding live roles_enabled roles_assigned
  has-live r l =
      ap (λ (x : ℕ). has x r) (intersection-set_of (roles_of s) _ _ (omega (arith, fine.header.roles-most)))
      ∙ has-below (roles_of s) _ r l
      ∙ ap (λ (b : Bool). b && any_below (permission_rows_of s) (λ k. row_in s set (permission_rows_at s) k && eqb (row_at s (permission_rows_at s) k).role r)) (on-is r l)

  -- row k of the users, and of the permissions
  in_u : ℕ → Bool
  in_u k = row_in s set (user_rows_at s) k

  role_u : ℕ → ℕ
  role_u k = (row_at s (user_rows_at s) k).role

  number_u : ℕ → ℕ
  number_u k = (row_at s (user_rows_at s) k).number

  in_p : ℕ → Bool
  in_p k = row_in s set (permission_rows_at s) k

  role_p : ℕ → ℕ
  role_p k = (row_at s (permission_rows_at s) k).role

  number_p : ℕ → ℕ
  number_p k = (row_at s (permission_rows_at s) k).number

  -- u may use p through r
  may : (u p r : ℕ) → r < roles_of s → enabled (rota_of s) r t ≡ true → has_user (rota_of s) u r t ≡ true → has_permission (rota_of s) p r t ≡ true
      → is_yes (answer (rota_of s) u p t) ≡ true
  unfolding answer through rota_of
  may u p r l a b c =
      ap is_yes (ap (λ (n : ℕ). lowest_below n (through (rota_of s) u p t)) (list_of-length (roles_of s) (role_ref s)))
      ∙ yes-is (roles_of s) (through (rota_of s) u p t)
      ∙ any-stop (through (rota_of s) u p t) (roles_of s) r l (and-all (enabled (rota_of s) r t) (has_user (rota_of s) u r t) (has_permission (rota_of s) p r t) a b c)

  record May (u p : ℕ) : Type 0 where
    role : ℕ
    below : role < roles_of s
    on : enabled (rota_of s) role t ≡ true
    user : has_user (rota_of s) u role t ≡ true
    permission : has_permission (rota_of s) p role t ≡ true

  may-by : (u p : ℕ) → is_yes (answer (rota_of s) u p t) ≡ true → May u p
  unfolding answer through rota_of
  may-by u p e =
      let z = any_out (roles_of s) (through (rota_of s) u p t)
      (sym (yes-is (roles_of s) (through (rota_of s) u p t))
      ∙ ap is_yes (ap (λ (n : ℕ). lowest_below n (through (rota_of s) u p t)) (sym (list_of-length (roles_of s) (role_ref s)))) ∙ e) in
      let r = z.0 in
      let a = and-three (enabled (rota_of s) r t) (has_user (rota_of s) u r t) (has_permission (rota_of s) p r t) z.2 in
      record { role = r; below = z.1; on = a.0; user = a.1; permission = a.2 }

  -- a row of the users that gives a live role to u, and the other way round
  holds_by : (u k : ℕ) → k < user_rows_of s → (has live (role_u k) && in_u k && eqb (number_u k) u) ≡ true → holds_any (policy_of (rota_of s)) t u ≡ true
  unfolding holds_any rota_of in_u role_u number_u in_p role_p number_p
  holds_by u k lk e =
      let r = role_u k in
      let lr : r < roles_of s = (user-rows.each k lk).role in
      let a = and-three (has live r) (in_u k) (eqb (number_u k) u) e in
      let b = and_yes (enabled (rota_of s) r t) (any_below (permission_rows_of s) (λ l. in_p l && eqb (role_p l) r)) (sym (has-live r lr) ∙ a.0) in
      let m = any_out (permission_rows_of s) (λ l. in_p l && eqb (role_p l) r) b.1 in
      let l = m.0 in
      let p = number_p l in
      let lp : p < permissions_of s = (permission-rows.each l m.1).number in
      let c = and_yes (in_p l) (eqb (role_p l) r) m.2 in
      let hu : has_user (rota_of s) u r t ≡ true
      = sym (user-is u r user-rows)
      ∙ any-stop (λ i. eqb (number_u i) u && in_u i && eqb (role_u i) r) (user_rows_of s) k lk (and-all (eqb (number_u k) u) (in_u k) (eqb (role_u k) r) a.2 a.1 (eq-eqb r r refl)) in
      let hp : has_permission (rota_of s) p r t ≡ true
      = sym (permission-is p r permission-rows)
      ∙ any-stop (λ i. eqb (number_p i) p && in_p i && eqb (role_p i) r) (permission_rows_of s) l m.1 (and-all (eqb (number_p l) p) (in_p l) (eqb (role_p l) r) (eq-eqb p p refl) c.0 c.1) in
      any-stop (λ q. is_yes (answer (rota_of s) u q t)) (permissions_of s) p lp (may u p r lr b.0 hu hp)

  held_by : (u : ℕ) → holds_any (policy_of (rota_of s)) t u ≡ true → any_below (user_rows_of s) (λ k. has live (role_u k) && in_u k && eqb (number_u k) u) ≡ true
  unfolding holds_any rota_of in_u role_u number_u in_p role_p number_p
  held_by u e =
      let q = any_out (permissions_of s) (λ q. is_yes (answer (rota_of s) u q t)) e in
      let p = q.0 in
      let z = may-by u p q.2 in
      let r = z.role in
      let m = any_out (user_rows_of s) (λ i. eqb (number_u i) u && in_u i && eqb (role_u i) r) (user-is u r user-rows ∙ z.user) in
      let n = any_out (permission_rows_of s) (λ i. eqb (number_p i) p && in_p i && eqb (role_p i) r) (permission-is p r permission-rows ∙ z.permission) in
      let k = m.0 in
      let l = n.0 in
      let a = and-three (eqb (number_u k) u) (in_u k) (eqb (role_u k) r) m.2 in
      let b = and-three (eqb (number_p l) p) (in_p l) (eqb (role_p l) r) n.2 in
      let lives : has live (role_u k) ≡ true
      = ap (has live) (eqb-true (role_u k) r a.2) ∙ has-live r z.below
      ∙ and_both (enabled (rota_of s) r t) _ z.on
      (any-stop (λ i. in_p i && eqb (role_p i) r) (permission_rows_of s) l n.1 (and_both (in_p l) (eqb (role_p l) r) b.1 b.2)) in
      any-stop (λ i. has live (role_u i) && in_u i && eqb (number_u i) u) (user_rows_of s) k m.1 (and-all (has live (role_u k)) (in_u k) (eqb (number_u k) u) lives a.1 a.0)

  pub holders-are : users_with s set (intersection (roles_enabled s set (roles_of s)) (roles_assigned s set (permission_rows_at s) (permission_rows_of s))) (user_rows_at s) (user_rows_of s)
      ≡ holders_at (policy_of (rota_of s)) t
  unfolding live users_with holders_at rota_of in_u role_u number_u
  holders-are =
      set_of-same (users_of s) (λ u. any_below (user_rows_of s) (λ k. has live (role_u k) && in_u k && eqb (number_u k) u)) (holds_any (policy_of (rota_of s)) t)
      (λ u l. eq-ext _ _ (λ h. let k = any_out (user_rows_of s) (λ k. has live (role_u k) && in_u k && eqb (number_u k) u) h in holds_by u k.0 k.1 k.2) (held_by u))
