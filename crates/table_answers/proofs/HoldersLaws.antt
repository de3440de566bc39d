-- Who holds a permission in an accepted table: the users of every row that covers the minute.
--     row-has                               the users of one row at a minute
--     holders-are                           the set that is asked for, by the rows
--     gather_none, gather-more, gather-all  the loop over the rows
-- Assumes nothing.
use Rattle.ground.proofs.BoolLaws.{and_yes, and_both, eq-ext}
use Prim.Native.Nat.{ℕ, ◌+◌, ◌^◌, ◌≤◌, ◌<◌}
use mathlib.Core.Path.{◌≡◌, refl, sym, ◌∙◌, ap}
use mathlib.Core.List.{List}
use mathlib.Core.Bool.{Bool, true, false, ◌&&◌}
use native.Mathlib.Nat.{lt_of_lt_of_le}
use lib.Dec.{ltb}
use lib.Pow.{pow_pos, pow_mono}
use borrow.Author.Tests.{ltb-false}
use Rattle.ground.specs.Believed.Choice.{pick}
use Rattle.ground.specs.Believed.Search.{any_below}
use Rattle.ground.proofs.SearchLaws.{any-stop, any_out, any-none-of}
use Rattle.bitset.specs.Believed.Sets.{has, set_of, union}
use Rattle.bitset.proofs.SetLaws.{has-none, has-past, has-below, has-set_of, set_of-lt, some-member, ext}
use Rattle.bitset.proofs.GatherLaws.{gather-start, gather-union}
use Rattle.policy.specs.Believed.Policy.{holds_any, holders_at}
use Rattle.table.specs.Believed.Table.{policy_of}
use Rattle.table.specs.Believed.TableBytes.{users_of, rows_of, table_of}
use Rattle.table.specs.Inside.{Opened}
use Rattle.table_answers.specs.Grants.{covering, owned, row_users}
use Rattle.table_answers.proofs.GrantLaws.{grants-parts, grants-of}
use Rattle.table.specs.declared.Counts.{Counts}
use Rattle.table.proofs.HeaderLaws.{counts-are}
use Rattle.table.proofs.FineLaws.{TableFine, table-fine}
use Rattle.table_answers.proofs.AnswerLaws.{yes-grants}

-- user u is among the users of row i, which covers t
abbrev pub row_has : List ℕ → ℕ → ℕ → ℕ → Bool
row_has s t u i = has (row_users s t i) u

pick-has : (c : Bool) (x u : ℕ) → has (pick c x 0) u ≡ (c && has x u)
pick-has true x u = refl
pick-has false x u = has-none u

module _ (s : List ℕ) (f : TableFine s) (t : ℕ) where
  pub row-has : (u i : ℕ) → row_has s t u i ≡ (covering s t i && has (owned s i).users u)
  unfolding row_users
  row-has u i = pick-has (covering s t i) (owned s i).users u

  users-small : (i : ℕ) → i < rows_of s → row_users s t i < 2 ^ users_of s
  unfolding row_users
  users-small i l = go (covering s t i) (f.entries _ (f.rows i l).alone.derived).users-below
    where
      go : (c : Bool) {x : ℕ} → x < 2 ^ users_of s → pick c x 0 < 2 ^ users_of s
      go true h = h
      go false h = pow_pos (users_of s)

  holds_row : (u : ℕ) → holds_any (policy_of (table_of s)) t u ≡ true → any_below (rows_of s) (row_has s t u) ≡ true
  unfolding holds_any
  holds_row u h =
      let p = any_out _ _ h in
      let k = any_out _ _ (sym (yes-grants s f u p.0 t) ∙ p.2) in
      let g = grants-parts s u p.0 t k.0 k.2 in
      any-stop _ _ k.0 k.1 (row-has u k.0 ∙ and_both (covering s t k.0) (has (owned s k.0).users u) g.0 g.1)

  row-holds : (u : ℕ) → any_below (rows_of s) (row_has s t u) ≡ true → holds_any (policy_of (table_of s)) t u ≡ true
  unfolding holds_any table_of
  row-holds u h =
      let w = any_out _ _ h in
      let k = w.0 in
      let c = and_yes (covering s t k) (has (owned s k).users u) (sym (row-has u k) ∙ w.2) in
      let e = f.entries _ (f.rows k w.1).alone.derived in
      let p = any_out _ _ (some-member _ _ e.some-permission e.permissions-below) in
      any-stop _ _ p.0 p.1 (yes-grants s f u p.0 t ∙ any-stop _ _ k w.1 (grants-of s u p.0 t k c.0 c.1 p.2))

  pub holds-is : (u : ℕ) → holds_any (policy_of (table_of s)) t u ≡ any_below (rows_of s) (row_has s t u)
  holds-is u = eq-ext _ _ (holds_row u) (row-holds u)

  past : (u : ℕ) → users_of s ≤ u → any_below (rows_of s) (row_has s t u) ≡ false
  past u m = any-none-of _ _ (λ i l. has-past (users_of s) _ u (users-small i l) m)

  pub holders-are : set_of 64 (λ u. any_below (rows_of s) (row_has s t u)) ≡ holders_at (policy_of (table_of s)) t
  unfolding holders_at table_of
  holders-are =
      ext 64 _ _ (set_of-lt 64 _) (lt_of_lt_of_le (set_of-lt (users_of s) _) (pow_mono f.header.users-most))
      (λ u l. has-below 64 _ u l ∙ go u (ltb u (users_of s)) refl ∙ sym (has-set_of (users_of s) _ u))
    where
      go : (u : ℕ) (b : Bool) → ltb u (users_of s) ≡ b → any_below (rows_of s) (row_has s t u) ≡ (ltb u (users_of s) && holds_any (policy_of (table_of s)) t u)
      go u true e = rw e (sym (holds-is u))
      go u false e = rw e (past u (ltb-false u (users_of s) e))

-- the loop over the rows
unfoldable pub gathered : List ℕ → ℕ → ℕ → ℕ
gathered s t i = set_of 64 (λ u. any_below i (row_has s t u))

module _ (s : List ℕ) (t : ℕ) where
  pub gather_none : 0 ≡ gathered s t 0
  unfolding gathered
  gather_none = gather-start _

  pub gather-more : (i x y z : ℕ) → x ≡ gathered s t i → z ≡ row_users s t i → y ≡ union x z → y ≡ gathered s t (i + 1)
  unfolding gathered
  gather-more i x y z ex ez ey = gather-union _ i x y z ex (λ u l. ap (λ (m : ℕ). has m u) (sym ez)) ey

  pub gather-all : (n : Counts) → Opened s n → (x : ℕ) → x ≡ gathered s t n.rows → x ≡ holders_at (policy_of (table_of s)) t
  unfolding gathered
  gather-all n o x ex = rw (counts-are s n o.counts).rows at ex ∙ holders-are s (table-fine s o.clear) t
