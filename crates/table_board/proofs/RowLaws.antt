-- The board by the rows of an accepted table, of which each role has at most one at a minute: what a loop over the rows, or over the roles, has after
-- some turns, and that after all of them it has the board.
--     shown-has                                 the board's sets by the rows that grant; past-users: none does past the users
--     count-roles                               the rows that cover the minute, counted role by role
--     passed-in, passed-out, passed-all         the loop over the rows: one that covers the minute, one that does not, every row
--     searched-in, searched-out, searched-all   the loop over the roles: one that has a row at the minute, one that has none, every role
-- Assumes nothing.
use Rattle.std.specs.Prelude.{is_some}
use Prim.Native.Nat.{ℕ, ◌+◌, ◌^◌, ◌≤◌, ◌<◌}
use mathlib.Core.Path.{◌≡◌, refl, sym, ◌∙◌, ap, ap₂}
use mathlib.Core.Bool.{Bool, true, false, ◌&&◌}
use mathlib.Core.List.{List}
use Rattle.std.proofs.Common.{Option, None, Some}
use native.Mathlib.Nat.{le_refl}
use Rattle.ground.specs.From.{or_number}
use native.Mathlib.Omega.{arith}
use lib.Dec.{ltb}
use lib.Pow.{pow_pos}
use borrow.Author.Tests.{ltb-false, lt-ltb, le-ltb, eq-eqb}
use Rattle.ground.specs.Believed.Choice.{pick}
use Rattle.ground.specs.Believed.Outcome.{given}
use Rattle.ground.specs.Believed.Search.{any_below, count_below}
use Rattle.ground.specs.Believed.Sequence.{list_of}
use Rattle.ground.proofs.BoolLaws.{and_both, clash, eq-ext, not_yes}
use Rattle.ground.proofs.SearchLaws.{any-none-of, any_out, any-stop, list_count, count_same}
use Rattle.ground.proofs.SequenceLaws.{list_of-same}
use Rattle.bitset.specs.Believed.Sets.{has, set_of}
use Rattle.bitset.proofs.SetLaws.{has-none, has-past, has-set_of, set_of-has, set_of-same, fits-64}
use Rattle.minutes.specs.Believed.Minutes.{covers}
use Rattle.policy.specs.Believed.Policy.{is_yes}
use Rattle.table.specs.Believed.Table.{Row, answer, policy_of}
use Rattle.table.specs.Believed.TableBytes.{cycle_of, users_of, permissions_of, roles_of, rows_of, row_of, table_of}
use Rattle.table.specs.Believed.TableRefusals.{source_of, table_judged}
use Rattle.table.specs.Inside.{Opened}
use Rattle.table.specs.declared.Counts.{Counts}
use Rattle.table.proofs.HeaderLaws.{counts-are}
use Rattle.table.proofs.FineLaws.{TableFine, table-fine}
use Rattle.table_answers.specs.Grants.{covering, owned, row_grants}
use Rattle.table_answers.proofs.GrantLaws.{grants-parts}
use Rattle.table_answers.proofs.AnswerLaws.{yes-grants}
use Rattle.table_search.specs.Rows.{row_for}
use Rattle.table_search.proofs.StageLaws.{row-found, row-there}
use Rattle.table_board.specs.Believed.Board.{permissions_at, board_of, rows_at, shown_at, board_told}
use Rattle.table_board.specs.Rows.{added_row}
use Rattle.table_board.specs.declared.Board.{Board}
use Rattle.table_board.proofs.CountLaws.{count-matched}
use Rattle.table_board.proofs.GatheredLaws.{Gathered, gathered-in, gathered-out}

-- ---- an accepted table

module _ (s : List ℕ) (f : TableFine s) (t : ℕ) where
  -- no row grants past the users and the permissions
  pub past-users : (u p : ℕ) → users_of s ≤ u → any_below (rows_of s) (row_grants s u p t) ≡ false
  past-users u p m =
      any-none-of _ _
      (λ k l. not_yes _ (λ g. clash _ (grants-parts s u p t k g).1 (has-past (users_of s) _ u (f.entries _ (f.rows k l).alone.derived).users-below m)))

  past-permissions : (u p : ℕ) → permissions_of s ≤ p → any_below (rows_of s) (row_grants s u p t) ≡ false
  past-permissions u p m =
      any-none-of _ _
      (λ k l. not_yes _ (λ g. clash _ (grants-parts s u p t k g).2 (has-past (permissions_of s) _ p (f.entries _ (f.rows k l).alone.derived).permissions-below m)))

  -- the set of a user number, by the rows that grant
  abbrev shown_to : ℕ → ℕ
  shown_to u = pick (ltb u (users_of s)) (permissions_at (policy_of (table_of s)) t u) 0

  pub shown-has : (u p : ℕ) → has (shown_to u) p ≡ any_below (rows_of s) (row_grants s u p t)
  unfolding permissions_at table_of
  shown-has u p = user (ltb u (users_of s)) refl
    where
      within : (b : Bool) → ltb p (permissions_of s) ≡ b → (b && is_yes (answer (table_of s) u p t)) ≡ any_below (rows_of s) (row_grants s u p t)
      within true e = yes-grants s f u p t
      within false e = sym (past-permissions u p (ltb-false p (permissions_of s) e))

      user : (b : Bool) → ltb u (users_of s) ≡ b → has (pick b (permissions_at (policy_of (table_of s)) t u) 0) p ≡ any_below (rows_of s) (row_grants s u p t)
      user true e = has-set_of (permissions_of s) _ p ∙ within (ltb p (permissions_of s)) refl
      user false e = has-none p ∙ sym (past-users u p (ltb-false u (users_of s) e))

  shown-fits : (u : ℕ) → shown_to u < 2 ^ 64
  unfolding permissions_at table_of
  shown-fits u = go (ltb u (users_of s))
    where
      go : (b : Bool) → pick b (permissions_at (policy_of (table_of s)) t u) 0 < 2 ^ 64
      go true = fits-64 (permissions_of s) _ f.header.permissions-most
      go false = pow_pos 64

  board-is : list_of 64 (λ u. set_of 64 (λ p. any_below (rows_of s) (row_grants s u p t))) ≡ board_of (policy_of (table_of s)) t
  unfolding board_of table_of
  board-is = list_of-same 64 _ _ (λ u l. sym (set_of-has 64 (shown_to u) _ (shown-fits u) (λ p m. shown-has u p)))

-- ---- row by row

count-rows : (s : List ℕ) (t : ℕ) → count_below (rows_of s) (covering s t) ≡ rows_at (table_of s) t
unfolding rows_at table_of
count-rows s t = sym (list_count (λ (w : Row). covers (cycle_of s) w.window t) (rows_of s) (row_of s))

-- row i covers t: it grants what its entry has
grants-entry : (s : List ℕ) (i t : ℕ) → covering s t i ≡ true → (u p : ℕ)
    → row_grants s u p t i ≡ (has (owned s i).users u && has (owned s i).permissions p)
unfolding row_grants
grants-entry s i t h u p = rw h refl

-- it does not: it grants nothing
grants-nothing : (s : List ℕ) (i t : ℕ) → covering s t i ≡ false → (u p : ℕ) → row_grants s u p t i ≡ false
unfolding row_grants
grants-nothing s i t h u p = rw h refl

-- ---- role by role

-- role j has a row at t; and that row grants permission p to user u
abbrev pub role_on : List ℕ → ℕ → ℕ → Bool
role_on s t j = is_some (row_for s j t)

abbrev by_row : (ℕ → Bool) → Option ℕ → Bool
by_row f None = false
by_row f (Some k) = f k

abbrev pub role_grants : List ℕ → ℕ → ℕ → ℕ → ℕ → Bool
role_grants s u p t j = by_row (row_grants s u p t) (row_for s j t)

by_some : (f : ℕ → Bool) (o : Option ℕ) → by_row f o ≡ true → (k : ℕ) × (o ≡ Some k) × (f k ≡ true)
by_some f None h = absurd (clash _ h refl)
by_some f (Some k) h = (k, refl, h)

module _ (s : List ℕ) (a : table_judged s ≡ 0) (t : ℕ) where
  -- a row that covers t is the one of its role, which is one of the roles
  own_row : (k : ℕ) → k < rows_of s → covering s t k ≡ true → (source_of s k < roles_of s) × (row_for s (source_of s k) t ≡ Some k)
  own_row k l h =
      let f = table-fine s a in (
        (f.entries _ (f.rows k l).alone.derived).source,
        sym (row-found s a (source_of s k) t k l (and_both _ _ (eq-eqb (source_of s k) (source_of s k) refl) h)),
      )

  any-role : (u p : ℕ) → any_below (roles_of s) (role_grants s u p t) ≡ any_below (rows_of s) (row_grants s u p t)
  any-role u p =
      eq-ext _ _
      (λ h.
      let j = any_out _ _ h in
      let z = by_some (row_grants s u p t) (row_for s j.0 t) j.2 in
      any-stop _ _ z.0 (row-there s j.0 t z.0 z.1).0 z.2)
      (λ h.
      let k = any_out _ _ h in
      let z = own_row k.0 k.1 (grants-parts s u p t k.0 k.2).0 in
      any-stop _ _ (source_of s k.0) z.0 (ap (by_row (row_grants s u p t)) z.1 ∙ k.2))

  -- the row of role j as a number, and the number of rows where there is none
  abbrev place_of : ℕ → ℕ
  place_of j = or_number (rows_of s) (row_for s j t)

  on-place : (j : ℕ) → role_on s t j ≡ ltb (place_of j) (rows_of s)
  on-place j = go (row_for s j t) refl
    where
      go : (o : Option ℕ) → row_for s j t ≡ o → is_some o ≡ ltb (or_number (rows_of s) o) (rows_of s)
      go None e = sym (le-ltb (rows_of s) (rows_of s) (le_refl _))
      go (Some k) e = sym (lt-ltb k (rows_of s) (row-there s j t k e).0)

  at-place : (j : ℕ) → place_of j < rows_of s → (source_of s (place_of j) ≡ j) × (covering s t (place_of j) ≡ true)
  at-place j l = go (row_for s j t) refl l
    where
      go : (o : Option ℕ) → row_for s j t ≡ o → or_number (rows_of s) o < rows_of s
          → (source_of s (or_number (rows_of s) o) ≡ j) × (covering s t (or_number (rows_of s) o) ≡ true)
      go None e l = absurd (omega arith)
      go (Some k) e l = let z = row-there s j t k e in (z.1, z.2)

  pub count-roles : count_below (roles_of s) (role_on s t) ≡ rows_at (table_of s) t
  count-roles =
      count_same (roles_of s) _ _ (λ j l. on-place j)
      ∙ count-matched (roles_of s) (covering s t) place_of (source_of s) (rows_of s)
      (record { there = at-place; back = λ k l h. let z = own_row k l h in (z.0, ap (or_number (rows_of s)) z.1) })
      ∙ count-rows s t

-- ---- the loops

-- what they have after the first i rows, and after the first i roles
abbrev pub ByRows : List ℕ → ℕ → ℕ → List ℕ → ℕ → Type 0
ByRows s t = Gathered (λ u p. row_grants s u p t) (covering s t)

abbrev pub ByRoles : List ℕ → ℕ → ℕ → List ℕ → ℕ → Type 0
ByRoles s t = Gathered (λ u p. role_grants s u p t) (role_on s t)

-- this is the board
abbrev pub IsBoard : List ℕ → ℕ → List ℕ → ℕ → Type 0
IsBoard s t rights rows = ◌≡◌ {A = Board} (record { refusal = 0; rows = rows; rights = rights }) (board_told (given (shown_at (table_of s) t)))

-- the row of a role is one of the rows
pub row-below : (s : List ℕ) (n : Counts) (o : Opened s n) (r t k : ℕ) → Some k ≡ row_for s r t → k < n.rows
row-below s n o r t k e = omega (arith, (row-there s r t k (sym e)).0, (counts-are s n o.counts).rows)

module _ (s : List ℕ) (n : Counts) (o : Opened s n) (t i : ℕ) (rights : List ℕ) (rows : ℕ) where
  -- row i, and whether it covers t
  module _ (g : ByRows s t i rights rows) (v : Bool) (ev : v ≡ covering s t i) where
    pub passed-out : v ≡ false → ByRows s t (i + 1) rights rows
    passed-out h = gathered-out _ _ i rights rows g (sym ev ∙ h) (grants-nothing s i t (sym ev ∙ h))

    pub passed-in : v ≡ true → ByRows s t (i + 1) (added_row rights s i) (rows + 1)
    unfolding added_row
    passed-in h = gathered-in _ _ i rights rows g _ _ (grants-entry s i t (sym ev ∙ h)) (sym ev ∙ h)

  -- role i, which has no row, and which has row k
  module _ (g : ByRoles s t i rights rows) where
    pub searched-out : None ≡ row_for s i t → ByRoles s t (i + 1) rights rows
    searched-out e =
        gathered-out _ _ i rights rows g (ap is_some (sym e)) (λ u p. ap (by_row (row_grants s u p t)) (sym e))

    pub searched-in : (k : ℕ) → Some k ≡ row_for s i t → ByRoles s t (i + 1) (added_row rights s k) (rows + 1)
    unfolding added_row
    searched-in k e =
        gathered-in _ _ i rights rows g _ _
        (λ u p. ap (by_row (row_grants s u p t)) (sym e) ∙ grants-entry s k t (row-there s i t k (sym e)).2 u p)
        (ap is_some (sym e))

  -- every row, and every role
  told : rows ≡ rows_at (table_of s) t → rights ≡ list_of 64 (λ u. set_of 64 (λ p. any_below (rows_of s) (row_grants s u p t))) → IsBoard s t rights rows
  told c r = ap₂ (λ (x : ℕ) (y : List ℕ). record { refusal = 0; rows = x; rights = y }) c (r ∙ board-is s (table-fine s o.clear) t)

  pub passed-all : i ≡ n.rows → ByRows s t i rights rows → IsBoard s t rights rows
  passed-all ei g =
      let w : ByRows s t (rows_of s) rights rows = rw (ei ∙ (counts-are s n o.counts).rows) at g in
      told (w.count ∙ count-rows s t) w.sets

  pub searched-all : i ≡ n.roles → ByRoles s t i rights rows → IsBoard s t rights rows
  searched-all ei g =
      let w : ByRoles s t (roles_of s) rights rows = rw (ei ∙ (counts-are s n o.counts).roles) at g in
      told (w.count ∙ count-roles s o.clear t)
      (w.sets ∙ list_of-same 64 _ _ (λ u l. set_of-same 64 _ _ (λ p m. any-role s o.clear t u p)))
