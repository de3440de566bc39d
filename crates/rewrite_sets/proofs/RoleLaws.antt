-- A role by slots gives in a field with a mask what the rota's rows give.
--     slot_small      a reference that names a record has a slot below 33
--     kept-by         the law itself
-- Assumes nothing.
use Prim.Native.Nat.{ℕ, zero, suc, ◌≤◌, ◌<◌}
use mathlib.Core.Path.{◌≡◌, refl, sym, ◌∙◌, ap, ap₂}
use mathlib.Core.Bool.{Bool, true, false, not, ◌&&◌, ◌||◌, and-false, and_assoc, and-or_distrib_left}
use Rattle.std.proofs.Common.{None, Some}
use mathlib.Core.List.{List, [], ◌∷◌}
use native.Mathlib.Nat.{lt_of_lt_of_le}
use native.Mathlib.Omega.{arith}
use lib.Dec.{eqb, ltb}
use lib.ListN.{get_or}
use lib.Pow.{pow_mono}
use borrow.Author.Tests.{leb-false, eqb-true, ne_eqb, eq-eqb, lt-ltb, ltb-false}
use Rattle.ground.specs.Believed.Choice.{pick}
use Rattle.ground.specs.Believed.Search.{any, any_below}
use Rattle.ground.specs.Believed.Sequence.{All}
use Rattle.ground.proofs.SearchLaws.{any_same, any-stop, any-none-of}
use Rattle.ground.proofs.ListLaws.{all-with, some_same}
use Rattle.ground.proofs.SequenceLaws.{get-list_of}
use Rattle.bitset.specs.Believed.Sets.{has, set_of}
use Rattle.bitset.proofs.SetLaws.{has-set_of, set_of-lt, ext}
use Rattle.rewrite_unions.specs.Union.{union_of}
use Rattle.rewrite_unions.proofs.UnionLaws.{has-union-of, union-lt}
use Rattle.hours.specs.Believed.Hours.{dangling}
use Rattle.hours.specs.declared.HoursRef.{HoursRef}
use Rattle.hours.specs.declared.HoursRef.TheVariants.{Always, Numbered}
use Rattle.rota.specs.Believed.Rota.{Row, Rota, role_hours}
use Rattle.rota.specs.RotaWell.{RefWell, RowWell, RotaWell}
use Rattle.rewrite_rules.specs.Masks.{slot_of, assigned_in, users_in, permissions_in, kept_in}
use Rattle.rewrite_sets.specs.Role.{sets_made, sets_in, kept_with, kept_by, at_slot, by_slot, role_of}

pub slot_small : (h : ℕ) (ref : HoursRef) → h ≤ 32 → RefWell h ref → slot_of ref < 33
unfolding slot_of dangling
slot_small h Always l e = omega arith
slot_small h (Numbered k) l e = omega (arith, leb-false h k e)

slots_small : (top roles h : ℕ) (rows : List Row) → h ≤ 32 → All (RowWell top roles h) rows → All (λ (w : Row). slot_of w.hours < 33) rows
slots_small top roles h rows l a = all-with (λ w q. slot_small h w.hours l q.hours) rows a

numbers-small : (top roles h : ℕ) (rows : List Row) → All (RowWell top roles h) rows → All (λ (w : Row). w.number < top) rows
numbers-small top roles h rows a = all-with (λ w q. q.number) rows a

-- ---- searches

or_swap : (a b p q : Bool) → ((a || b) || (p || q)) ≡ ((a || p) || (b || q))
or_swap true b p q = refl
or_swap false true true q = refl
or_swap false true false q = refl
or_swap false false p q = refl

any-or : (n : ℕ) (f g : ℕ → Bool) → any_below n (λ j. f j || g j) ≡ (any_below n f || any_below n g)
unfolding any_below
any-or zero f g = refl
any-or (suc n) f g = ap (λ (b : Bool). b || (f n || g n)) (any-or n f g) ∙ or_swap (any_below n f) (any_below n g) (f n) (g n)

-- ---- the slots of a mask

module _ (m : ℕ) where
  at_one : (s : ℕ) (b : Bool) → has m s ≡ b → s < 33 → any_below 33 (λ j. has m j && eqb s j) ≡ b
  at_one s true e l = any-stop (λ j. has m j && eqb s j) 33 s l (rw e (self s))
    where
      self : (s : ℕ) → eqb s s ≡ true
      self s = eq-eqb s s refl
  at_one s false e l = any-none-of 33 (λ j. has m j && eqb s j) (λ j l. go j (eqb s j) refl)
    where
      go : (j : ℕ) (q : Bool) → eqb s j ≡ q → (has m j && q) ≡ false
      go j true w = ap (λ (b : Bool). b && true) (ap (has m) (sym (eqb-true s j w)) ∙ e)
      go j false w = and-false (has m j)

  with-test : (a : Bool) (s : ℕ) → s < 33 → any_below 33 (λ j. has m j && (a && eqb s j)) ≡ (a && has m s)
  with-test true s l = at_one s (has m s) refl l
  with-test false s l = any-none-of 33 (λ j. has m j && false) (λ j l. and-false (has m j))

  by_rows : (a : Row → Bool) (rows : List Row) → All (λ (w : Row). slot_of w.hours < 33) rows
      → any_below 33 (λ j. has m j && any (λ (w : Row). a w && eqb (slot_of w.hours) j) rows) ≡ any (λ (w : Row). a w && has m (slot_of w.hours)) rows
  unfolding any
  by_rows a [] s = any-none-of 33 (λ j. has m j && false) (λ j l. and-false (has m j))
  by_rows a (w ∷ rows) s =
      any_same 33 (λ j. has m j && ((a w && eqb (slot_of w.hours) j) || any (λ (v : Row). a v && eqb (slot_of v.hours) j) rows))
      (λ j. (has m j && (a w && eqb (slot_of w.hours) j)) || (has m j && any (λ (v : Row). a v && eqb (slot_of v.hours) j) rows))
      (λ j l. and-or_distrib_left (has m j) (a w && eqb (slot_of w.hours) j) (any (λ (v : Row). a v && eqb (slot_of v.hours) j) rows))
      ∙ any-or 33 (λ j. has m j && (a w && eqb (slot_of w.hours) j)) (λ j. has m j && any (λ (v : Row). a v && eqb (slot_of v.hours) j) rows)
      ∙ ap₂ ◌||◌ (with-test (a w) (slot_of w.hours) s.0) (by_rows a rows s.1)

  -- ---- what a role has by slots, and by rows
  pulled : (a : Bool) (f : ℕ → Bool) → any_below 33 (λ j. has m j && (a && f j)) ≡ (a && any_below 33 (λ j. has m j && f j))
  pulled true f = refl
  pulled false f = any-none-of 33 (λ j. has m j && false) (λ j l. and-false (has m j))

  -- no row has a number that is out of range
  past : (top i : ℕ) (a : Row → Bool) (rows : List Row) → top ≤ i → All (λ (w : Row). w.number < top) rows → any (λ (w : Row). eqb w.number i && a w) rows ≡ false
  unfolding any
  past top i a [] l n = refl
  past top i a (w ∷ rows) l n = rw (ne_eqb w.number i (λ e. omega (arith, n.0))) (past top i a rows l n.1)

  in-range : (top i r : ℕ) (rows : List Row) → i < 64 → All (λ (w : Row). w.number < top) rows → (b : Bool) → ltb i top ≡ b
      → (ltb i 64 && assigned_in m rows i r) ≡ (b && assigned_in m rows i r)
  unfolding assigned_in
  in-range top i r rows l n true e = rw (lt-ltb i 64 l)
  in-range top i r rows l n false e =
      rw (lt-ltb i 64 l)
      (some_same (λ (w : Row). eqb w.number i && eqb w.role r && has m (slot_of w.hours)) (λ (w : Row). eqb w.number i && (eqb w.role r && has m (slot_of w.hours))) rows
      (λ w k. and_assoc (eqb w.number i) (eqb w.role r) (has m (slot_of w.hours)))
      ∙ past top i (λ (w : Row). eqb w.role r && has m (slot_of w.hours)) rows (ltb-false i top e) n)

  pub union-rows : (top : ℕ) (rows : List Row) (r : ℕ) → top ≤ 64 → All (λ (w : Row). w.number < top) rows → All (λ (w : Row). slot_of w.hours < 33) rows
      → union_of (by_slot rows r) m 33 ≡ set_of top (λ x. assigned_in m rows x r)
  unfolding by_slot at_slot
  union-rows top rows r l n s =
      ext 64 (union_of (by_slot rows r) m 33) (set_of top (λ x. assigned_in m rows x r)) (union-lt m (by_slot rows r) 33)
      (lt_of_lt_of_le (set_of-lt top (λ x. assigned_in m rows x r)) (pow_mono l))
      (λ i q.
      has-union-of m (by_slot rows r) 33 i q
      ∙ any_same 33 (λ j. has m j && has (get_or (by_slot rows r) j 0) i)
      (λ j. has m j && (ltb i 64 && any (λ (w : Row). eqb w.number i && eqb w.role r && eqb (slot_of w.hours) j) rows))
      (λ j k. ap (λ (b : Bool). has m j && b)
      (ap (λ (x : ℕ). has x i) (get-list_of 33 (at_slot rows r) 0 j k)
      ∙ has-set_of 64 (λ x. any (λ (w : Row). eqb w.number x && eqb w.role r && eqb (slot_of w.hours) j) rows) i))
      ∙ pulled (ltb i 64) (λ j. any (λ (w : Row). eqb w.number i && eqb w.role r && eqb (slot_of w.hours) j) rows)
      ∙ ap (λ (b : Bool). ltb i 64 && b) (by_rows (λ (w : Row). eqb w.number i && eqb w.role r) rows s ∙ as-assigned rows i r)
      ∙ in-range top i r rows q n (ltb i top) refl
      ∙ sym (has-set_of top (λ x. assigned_in m rows x r) i))
    where
      as-assigned : (rows : List Row) (i r : ℕ) → any (λ (w : Row). eqb w.number i && eqb w.role r && has m (slot_of w.hours)) rows ≡ assigned_in m rows i r
      as-assigned rows i r = unfold assigned_in in refl

-- ---- the law

pub kept-by : (ρ : Rota) → RotaWell ρ → (r m : ℕ) → kept_by (role_of ρ r) m ≡ kept_in ρ r m
unfolding kept_by role_of sets_in kept_in users_in permissions_in
kept-by ρ w r m =
    let h = w.hours-most in
    ap₂ (λ (u p : ℕ). kept_with r (pick (has m (slot_of (role_hours ρ r))) (sets_made u p) (sets_made 0 0)))
    (union-rows m ρ.users ρ.user-rows r w.users-most (numbers-small _ _ _ ρ.user-rows w.user-rows) (slots_small _ _ _ ρ.user-rows h w.user-rows))
    (union-rows m ρ.permissions ρ.permission-rows r w.permissions-most (numbers-small _ _ _ ρ.permission-rows w.permission-rows) (slots_small _ _ _ ρ.permission-rows h w.permission-rows))
    ∙ go (has m (slot_of (role_hours ρ r))) (users_in ρ r m) (permissions_in ρ r m)
  where
    go : (b : Bool) (u p : ℕ) → kept_with r (pick b (sets_made u p) (sets_made 0 0))
        ≡ pick (b && not (eqb u 0) && not (eqb p 0)) (Some (record { source = r; users = u; permissions = p })) None
    go true u p = refl
    go false u p = refl
