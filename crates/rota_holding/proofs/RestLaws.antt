-- Who is found by the rows so far, and what they rest on.
--     live-as                  the live roles, as the code finds them
--     can-meet                 a row that gives a live role: the role has a permission by hours that hold
--     grown                    the records that a row's user rests on
--     in_rows .. grown-here    the same in the words of the layout
--     rested-none              before the first row
--     rested-in, rested-out    one row more
--     rested-all, rested-stop  all rows are passed, or everyone is found
-- Assumes nothing.
use Prim.Native.Nat.{ℕ, ◌+◌, ◌*◌, ◌^◌, ◌≤◌, ◌<◌}
use mathlib.Core.Path.{◌≡◌, refl, sym, ap, ap₂, ◌∙◌}
use mathlib.Core.Logic.{⊎_elim, ◌⊎◌, inl, inr}
use mathlib.Core.Bool.{Bool, true, false, ◌&&◌, not}
use mathlib.Core.List.{List}
use native.Mathlib.Nat.{eq-or-lt_of_le}
use native.Mathlib.Omega.{arith}
use lib.Dec.{eqb, ltb}
use lib.ListN.{length, get_or}
use lib.Pow.{pow_pos}
use borrow.Author.Tests.{eq-eqb, eqb-true}
use Rattle.ground.specs.Believed.Search.{any_below}
use Rattle.ground.proofs.BoolLaws.{eq-ext, and_yes, and_both, or_yes, or_left, clash, lt-or-le}
use Rattle.ground.proofs.SearchLaws.{any-stop, any_out}
use Rattle.bitset.specs.Believed.Sets.{has, insert, intersection, difference}
use Rattle.bitset.proofs.SetLaws.{ext, has-none, has-set_of, has-below, has-past, has-insert, has-intersection, has-difference, insert-self, intersection-lt, set_of-lt}
use Rattle.endian.specs.Believed.Numbers.{u8_at}
use Rattle.hours.specs.Believed.Hours.{dangling, ref_of}
use Rattle.hours.specs.Inside.{ref_in}
use Rattle.rota.specs.Inside.{Located}
use Rattle.rota.specs.Believed.RotaBytes.{hours_of, users_of, roles_of, user_rows_of, permission_rows_of, user_rows_at, permission_rows_at, role_ref, row_at}
use Rattle.rota.specs.declared.Layout.{Layout}
use Rattle.rota.proofs.RotaFine.{RotaFine}
use Rattle.rota.proofs.LocatedLaws as located
use Rattle.rota_answers.specs.Gathered.{RowsFine, row_in, roles_enabled, roles_assigned, users_with, holders_by}
use Rattle.rota_answers.proofs.AskedLaws.{permissions-fine}
use Rattle.rota_answers.proofs.HoldersUp.{holders-up}
use Rattle.rota_holding.specs.Rests.{number_of, Permitted, meets, roles_given, live_by, gives, Grown, Resting}
use Rattle.rota_holding.proofs.NumberLaws.{number_small, ref-by-number, ref-kept}
use Rattle.rota_holding.proofs.PermittedLaws.{given-as, chosen}

-- a set with one more number
kept-in : (x i j : ℕ) → j < 64 → has x j ≡ true → has (insert x i) j ≡ true
kept-in x i j l h = has-insert x i j l ∙ or_left _ _ h

insert-lt : (x i : ℕ) → insert x i < 2 ^ 64
unfolding insert
insert-lt x i = set_of-lt 64 _

member-small : (x i : ℕ) → x < 2 ^ 64 → has x i ≡ true → i < 64
member-small x i l h = ⊎_elim (λ (m : i < 64). m) (λ (m : 64 ≤ i). clash (has x i) h (has-past 64 x i l m)) (lt-or-le i 64)

module _ (s : List ℕ) (l : Layout) (w : Located s l) where
  fine : RotaFine s
  fine = located.fine s l w

  few : hours_of s ≤ 32
  few = fine.header.hours-most

  rows : RowsFine s l.counts.permissions (permission_rows_at s) (permission_rows_of s)
  rows = rw (← (located.counted s l w).permission-rows, ← (located.permission-rows-at s l w)) (permissions-fine s l w)

  -- by a row, its role, and a permission of the role, its user holds a permission
  held_by : (x k : ℕ) → k < user_rows_of s → ref_in x (role_ref s (row_at s (user_rows_at s) k).role) ≡ true → row_in s x (user_rows_at s) k ≡ true
      → any_below (permission_rows_of s) (λ j. row_in s x (permission_rows_at s) j && eqb (row_at s (permission_rows_at s) j).role (row_at s (user_rows_at s) k).role) ≡ true
      → has (holders_by s x) (row_at s (user_rows_at s) k).number ≡ true
  unfolding holders_by users_with roles_enabled roles_assigned
  held_by x k m by-role by_row by-permission =
      let r = (row_at s (user_rows_at s) k).role in
      let l : r < roles_of s = (fine.user-rows k m).role in
      has-below (users_of s) _ _ (fine.user-rows k m).number
      ∙ any-stop _ (user_rows_of s) k m
      (and_both _ _
      (and_both _ _
      (has-intersection _ _ r (omega (arith, l, fine.header.roles-most))
      ∙ and_both _ _ (has-below (roles_of s) _ r l ∙ by-role) (has-below (roles_of s) _ r l ∙ by-permission))
      by_row)
      (eq-eqb (row_at s (user_rows_at s) k).number (row_at s (user_rows_at s) k).number refl))

  module _ (sets : List ℕ) (p : Permitted s (permission_rows_at s) (permission_rows_of s) sets) (set : ℕ) where
    pub live-as : {a b x : ℕ} → a ≡ roles_enabled s set (roles_of s) → b ≡ roles_given set sets l.counts.roles → x ≡ intersection a b → x ≡ live_by s set
    unfolding live_by
    live-as {a} {b} fa eb ex =
        let n = (located.counted s l w).roles in
        let fb : b ≡ roles_given set sets (roles_of s) = rw n at eb in
        ex ∙ ap₂ intersection fa (fb ∙ given-as s _ _ _ rows few sets p set fine.header.roles-most)

    module _ (k : ℕ) (m : k < user_rows_of s) (g : gives s set k ≡ true) where
      pub role-small : (row_at s (user_rows_at s) k).role < roles_of s
      role-small = (fine.user-rows k m).role

      live_both : (ref_in set (role_ref s (row_at s (user_rows_at s) k).role) ≡ true) × (has (roles_assigned s set (permission_rows_at s) (permission_rows_of s)) (row_at s (user_rows_at s) k).role ≡ true)
      unfolding live_by roles_enabled
      live_both =
          let r = (row_at s (user_rows_at s) k).role in
          let t : r < 64 = omega (arith, role-small, fine.header.roles-most) in
          let b = and_yes _ _ (sym (has-intersection _ _ r t) ∙ (and_yes _ _ g).0) in
          (sym (has-below (roles_of s) _ r role-small) ∙ b.0, b.1)

      pub can-meet : {r : ℕ} → r ≡ (row_at s (user_rows_at s) k).role → meets (get_or sets r 0) set ≡ true
      unfolding roles_given
      can-meet {r} e =
          let h : has (roles_given set sets (roles_of s)) (row_at s (user_rows_at s) k).role ≡ true =
          ap (λ (x : ℕ). has x (row_at s (user_rows_at s) k).role) (given-as s _ _ _ rows few sets p set fine.header.roles-most) ∙ live_both.1 in
          ap (λ (i : ℕ). meets (get_or sets i 0) set) e ∙ sym (has-below (roles_of s) _ _ role-small) ∙ h

      pub grown : {on a b c more : ℕ} → (has (get_or sets (row_at s (user_rows_at s) k).role 0) a ≡ true) → has (insert set 63) a ≡ true → a < 64
          → b ≡ number_of (role_ref s (row_at s (user_rows_at s) k).role) → c ≡ number_of (row_at s (user_rows_at s) k).hours
          → b < 64 → c < 64 → more ≡ intersection set (insert (insert (insert on a) b) c) → Grown s set on k more
      grown {on} {a} {b} {c} {more} ha hb la eb ec lb lc em =
          record {
            small = rw em (intersection-lt _ _);
            within = λ i h. within i (ap (λ (x : ℕ). has x i) (sym em) ∙ h);
            keeps = λ i t h z.
                ap (λ (x : ℕ). has x i) em ∙ has-intersection _ _ i t
                ∙ and_both _ _ z (kept-in _ c i t (kept-in _ b i t (kept-in _ a i t h)));
            rests = rw em (held_by _ k m by-role by_row by-permission);
          }
        where
          within : (i : ℕ) → has (intersection set (insert (insert (insert on a) b) c)) i ≡ true → has set i ≡ true
          within i h =
              let t : i < 64 = member-small _ i (intersection-lt _ _) h in
              (and_yes _ _ (sym (has-intersection _ _ i t) ∙ h)).0

          by-role : ref_in (intersection set (insert (insert (insert on a) b) c)) (role_ref s (row_at s (user_rows_at s) k).role) ≡ true
          by-role =
              ref-kept (hours_of s) few set (insert (insert (insert on a) b) c) (role_ref s (row_at s (user_rows_at s) k).role) (fine.roles _ role-small) live_both.0
              (rw (← eb) (kept-in (insert (insert on a) b) c b lb (insert-self (insert on a) b lb)))

          by_row : row_in s (intersection set (insert (insert (insert on a) b) c)) (user_rows_at s) k ≡ true
          by_row =
              ref-kept (hours_of s) few set (insert (insert (insert on a) b) c) (row_at s (user_rows_at s) k).hours (fine.user-rows k m).hours
              (and_yes (has (live_by s set) (row_at s (user_rows_at s) k).role) (row_in s set (user_rows_at s) k) g).1
              (rw (← ec) (insert-self (insert (insert on a) b) c lc))

          r32 : (row_at s (user_rows_at s) k).role < 32
          r32 = omega (arith, role-small, fine.header.roles-most)

          by-permission : any_below (permission_rows_of s) (λ j. row_in s (intersection set (insert (insert (insert on a) b) c)) (permission_rows_at s) j
              && eqb (row_at s (permission_rows_at s) j).role (row_at s (user_rows_at s) k).role) ≡ true
          by-permission =
              let j = chosen s _ _ _ rows few sets p _ a r32 la ha in
              let d = (fine.permission-rows j.row j.below).hours in
              any-stop _ (permission_rows_of s) j.row j.below
              (and_both _ _
              (ref-kept (hours_of s) few set (insert (insert (insert on a) b) c) (row_at s (permission_rows_at s) j.row).hours d (ref-by-number (hours_of s) few set _ d ∙ ap (has (insert set 63)) j.hours ∙ hb)
              (rw j.hours (kept-in (insert (insert on a) b) c a la (kept-in (insert on a) b a la (insert-self on a la)))))
              (eq-eqb _ _ j.role))

  -- ---- in the layout's own words
  pub roles-few : l.counts.roles ≤ 32
  roles-few = omega (arith, (located.counted s l w).roles, fine.header.roles-most)

  pub hours-as : l.counts.hours ≡ hours_of s
  hours-as = (located.counted s l w).hours

  pub roles-most : roles_of s ≤ 32
  roles-most = fine.header.roles-most

  pub permitted-as : {sets : List ℕ} → Permitted s l.permission_rows_at l.counts.permission_rows sets
      → Permitted s (permission_rows_at s) (permission_rows_of s) sets
  permitted-as p = rw ((located.counted s l w).permission-rows, located.permission-rows-at s l w) at p

  pub role-here : (r : ℕ) → r < roles_of s → l.roles_at + r < length s
  role-here r m = omega (arith, located.roles-at s l w, fine.ended)

  module _ (k : ℕ) (m : k < user_rows_of s) where
    place : l.user_rows_at ≡ user_rows_at s
    place = located.user-rows-at s l w

    pub row_here : l.user_rows_at + 3 * k + 3 ≤ length s
    row_here = omega (arith, place, fine.ended)

    pub user-small : {user : ℕ} → user ≡ (row_at s (user_rows_at s) k).number → user < 64
    user-small e = omega (arith, e, (fine.user-rows k m).number, fine.header.users-most)

    pub role-as : (row_at s l.user_rows_at k).role ≡ (row_at s (user_rows_at s) k).role
    role-as = ap (λ (i : ℕ). (row_at s i k).role) place

    pub role-below : (row_at s l.user_rows_at k).role < roles_of s
    role-below = omega (arith, role-as, (fine.user-rows k m).role)

    pub role-few : (row_at s l.user_rows_at k).role < 32
    role-few = omega (arith, role-below, fine.header.roles-most)

    pub grown-here : (sets : List ℕ) (p : Permitted s (permission_rows_at s) (permission_rows_of s) sets) (set : ℕ) → gives s set k ≡ true
        → {x on a b c more : ℕ} → x ≡ get_or sets (row_at s l.user_rows_at k).role 0 → has x a ≡ true → has (insert set 63) a ≡ true → a < 64
        → b ≡ number_of (ref_of (u8_at s (l.roles_at + (row_at s l.user_rows_at k).role)))
        → c ≡ number_of (row_at s l.user_rows_at k).hours
        → more ≡ intersection set (insert (insert (insert on a) b) c) → Grown s set on k more
    grown-here sets p set g {x} {on} {a} {b} {c} ex ha hb la eb ec em =
        let fb : b ≡ number_of (role_ref s (row_at s (user_rows_at s) k).role) =
        eb ∙ ap₂ (λ (i : ℕ) (r : ℕ). number_of (ref_of (u8_at s (i + r)))) (located.roles-at s l w) role-as in
        let fc : c ≡ number_of (row_at s (user_rows_at s) k).hours = ec ∙ ap (λ (i : ℕ). number_of (row_at s i k).hours) place in
        grown sets p set k m g
        (ap (λ (y : ℕ). has y a) (ap (λ (r : ℕ). get_or sets r 0) (sym role-as) ∙ sym ex) ∙ ha) hb la fb fc
        (omega (arith, fb, number_small (role_ref s (row_at s (user_rows_at s) k).role)))
        (omega (arith, fc, number_small (row_at s (user_rows_at s) k).hours)) em

-- a row, as the rows of users are lent
module _ {s bytes : List ℕ} {at : ℕ} (eb : bytes ≡ s) (ea : at ≡ user_rows_at s) (k : ℕ) where
  pub user-as : {user : ℕ} → user ≡ (row_at bytes at k).number → user ≡ (row_at s (user_rows_at s) k).number
  user-as e = rw (eb, ea) at e

  pub gives_as : (set : ℕ) {live : ℕ} {b : Bool} → live ≡ live_by s set → b ≡ (has live (row_at bytes at k).role && row_in bytes set at k) → b ≡ gives s set k
  gives_as set el e = rw (eb, ea, el) at e

-- ---- the rows so far
-- whether a user is looked for, as the code tests it
pub sought : {x : ℕ} (among found user : ℕ) {t : Bool} → x ≡ difference among found → t ≡ has x user → t ≡ has (difference among found) user
sought among found user ex et = et ∙ ap (λ (y : ℕ). has y user) ex

-- of those of `among` to whom the first k rows give a live role, all are found; everyone who is rests on records `on`
pub record Rested (s : List ℕ) (set among found on k : ℕ) : Type 0 where
  pub below : k ≤ user_rows_of s
  pub small : on < 2 ^ 64
  pub few-found : found < 2 ^ 64
  pub within : (i : ℕ) → has on i ≡ true → has set i ≡ true
  pub rests : (u : ℕ) → has found u ≡ true → has (holders_by s on) u ≡ true
  pub asked : (u : ℕ) → has found u ≡ true → has among u ≡ true
  pub all : (i : ℕ) → i < k → gives s set i ≡ true → has among (row_at s (user_rows_at s) i).number ≡ true → has found (row_at s (user_rows_at s) i).number ≡ true

pub rested-none : (s : List ℕ) (set among : ℕ) → Rested s set among 0 0 0
rested-none s set among =
    record {
      below = omega arith;
      small = pow_pos 64;
      few-found = pow_pos 64;
      within = λ i h. clash (has 0 i) h (has-none i);
      rests = λ u h. clash (has 0 u) h (has-none u);
      asked = λ u h. clash (has 0 u) h (has-none u);
      all = λ i l. absurd (omega arith);
    }

module _ {s : List ℕ} {set among found on k : ℕ} (w : Rested s set among found on k) where
  module _ (m : k < user_rows_of s) (user : ℕ) (eu : user ≡ (row_at s (user_rows_at s) k).number) (small : user < 64) where
    -- the row's user is found by it
    pub rested-in : {found₁ on₁ on₂ : ℕ} → has (difference among found) user ≡ true → found₁ ≡ insert found user → Grown s set on k on₂ → on₁ ≡ on₂
        → Rested s set among found₁ on₁ (k + 1)
    rested-in {found₁} {on₁} {on₂} d ef g₂ eo =
        record {
          below = omega arith;
          small = g.small;
          few-found = rw ef (insert-lt found user);
          within = g.within;
          rests = λ u h. ⊎_elim (λ (e : has found u ≡ true). up u (w.rests u e)) (λ (e : u ≡ user). rw (e, eu) g.rests) (in-found u h);
          asked = λ u h. ⊎_elim (λ (e : has found u ≡ true). w.asked u e) (λ (e : u ≡ user). rw e wanted) (in-found u h);
          all = λ i l q a.
              ap (λ (x : ℕ). has x (row_at s (user_rows_at s) i).number) ef
              ∙ ⊎_elim
              (λ (e : i ≡ k). rw (e, ← eu) (insert-self found user small))
              (λ (b : i < k). let z = w.all i b q a in kept-in found user _ (member-small found _ w.few-found z) z)
              (eq-or-lt_of_le (omega arith));
        }
      where
        g : Grown s set on k on₁
        g = rw eo g₂

        wanted : has among user ≡ true
        wanted = (and_yes _ _ (sym (has-difference among found user small) ∙ d)).0

        in-found : (u : ℕ) → has found₁ u ≡ true → (has found u ≡ true) ⊎ (u ≡ user)
        in-found u h =
            let z : has (insert found user) u ≡ true = ap (λ (x : ℕ). has x u) (sym ef) ∙ h in
            let t : u < 64 = member-small _ u (insert-lt found user) z in
            ⊎_elim (λ (e : has found u ≡ true). inl e) (λ (e : eqb u user ≡ true). inr (eqb-true u user e)) (or_yes _ _ (sym (has-insert found user u t) ∙ z))

        up : (u : ℕ) → has (holders_by s on) u ≡ true → has (holders_by s on₁) u ≡ true
        up = holders-up s on on₁ (λ i h. g.keeps i (member-small on i w.small h) h (w.within i h))

    -- the row's user is not looked for, or the row gives no live role
    pub rested-out : {found₁ on₁ : ℕ} → (has (difference among found) user ≡ false) ⊎ (gives s set k ≡ false) → found₁ ≡ found → on₁ ≡ on
        → Rested s set among found₁ on₁ (k + 1)
    rested-out {found₁} {on₁} d ef eo =
        record {
          below = omega arith;
          small = rw eo w.small;
          few-found = rw ef w.few-found;
          within = rw eo w.within;
          rests = rw (eo, ef) w.rests;
          asked = rw ef w.asked;
          all = λ i l q a.
              ap (λ (x : ℕ). has x (row_at s (user_rows_at s) i).number) ef
              ∙ ⊎_elim
              (λ (e : i ≡ k). rw (e, ← eu) (there (rw e at q) (rw (e, ← eu) at a)))
              (λ (b : i < k). w.all i b q a)
              (eq-or-lt_of_le (omega arith));
        }
      where
        there : gives s set k ≡ true → has among user ≡ true → has found user ≡ true
        there q a = go (has found user) refl d
          where
            go : (b : Bool) → has found user ≡ b → (has (difference among found) user ≡ false) ⊎ (gives s set k ≡ false) → b ≡ true
            go true e z = refl
            go false e (inl z) = clash (has (difference among found) user) (has-difference among found user small ∙ ap₂ (λ (x : Bool) (y : Bool). x && not y) a e) z
            go false e (inr z) = clash (gives s set k) q z

  -- whoever is found holds a permission by the whole set
  by-set : (u : ℕ) → has found u ≡ true → has (holders_by s set) u ≡ true
  by-set u h = holders-up s on set w.within u (w.rests u h)

  rested : ((u : ℕ) → has among u ≡ true → has (holders_by s set) u ≡ true → has found u ≡ true) → Resting s set among found on
  rested f =
      record {
        is =
            ext 64 found (intersection among (holders_by s set)) w.few-found (intersection-lt _ _)
            (λ u l.
            eq-ext _ _ (λ h. and_both _ _ (w.asked u h) (by-set u h)) (λ h. let b = and_yes _ _ h in f u b.0 b.1)
            ∙ sym (has-intersection among _ u l));
        within = w.within;
        rests = w.rests;
      }

  pub rested-stop : found ≡ among → Resting s set among found on
  rested-stop e = rested (λ u a h. rw e a)

  pub rested-all : user_rows_of s ≤ k → Resting s set among found on
  unfolding holders_by users_with live_by
  rested-all l = rested (λ u a h. listed u a (and_yes (ltb u (users_of s)) _ (sym (has-set_of (users_of s) _ u) ∙ h)).1)
    where
      listed : (u : ℕ) → has among u ≡ true
          → any_below (user_rows_of s) (λ k. has (live_by s set) (row_at s (user_rows_at s) k).role && row_in s set (user_rows_at s) k && eqb (row_at s (user_rows_at s) k).number u) ≡ true
          → has found u ≡ true
      listed u a h =
          let i = any_out (user_rows_of s) _ h in
          let b = and_yes _ _ i.2 in
          let e : (row_at s (user_rows_at s) i.0).number ≡ u = eqb-true _ _ b.1 in
          rw e at (w.all i.0 (omega (arith, i.1)) b.0 (rw e a))
