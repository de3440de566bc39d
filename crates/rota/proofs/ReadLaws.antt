-- The reader's outcome, by the stage at which reading stops.
-- Assumes nothing.
use Prim.Native.Nat.{ℕ, ◌+◌, ◌*◌}
use mathlib.Core.Path.{◌≡◌, refl, sym, ◌∙◌, ap}
use mathlib.Core.List.{List}
use native.Mathlib.Omega.{arith}
use borrow.Author.Tests.{eq-eqb, ne_eqb}
use lib.ListN.{length}
use Rattle.ground.specs.Believed.Judgement.{refuse, ◌or_else◌, in_turn}
use Rattle.ground.specs.Believed.Outcome.{refused, given}
use Rattle.ground.proofs.JudgementLaws.{or_else-ne}
use Rattle.ground.proofs.OutcomeLaws.{outcome-refused, outcome-given, refused-by, given_by}
use Rattle.hours.specs.Believed.HoursRefusals.{record_judged}
use Rattle.rota.specs.Believed.RotaBytes.{header_length, cycle_of, hours_of, users_of, permissions_of, roles_of, user_rows_of, permission_rows_of, user_rows_at, permission_rows_at, ends_at}
use Rattle.rota.specs.Believed.RotaRefusals.{header_judged, role_judged, row_judged, rota_judged}
use Rattle.rota.specs.Believed.Answers.{counts_of, read_outcome}
use Rattle.rota.specs.Inside.{rest_judged, layout_of, layout_outcome, Measured}
use Rattle.rota.specs.declared.Counts.{Counts}
use Rattle.rota.specs.declared.Layout.{Layout}
use Rattle.rota.proofs.CountsLaws.{CountsAre, counts-are}

-- rows judged with other names for the same counts
pub rows_as : (s : List ℕ) (n : ℕ) {top u at i a m : ℕ} → top ≡ u → at ≡ i → a ≡ m → in_turn (row_judged n top s at) a ≡ in_turn (row_judged n u s i) m
rows_as s n p q r = rw (p, q, r)

module _ (s : List ℕ) where
  pub rest-length : (length s ≡ ends_at s → ⊥) → 9 ≡ rest_judged s
  unfolding rest_judged refuse ◌or_else◌
  rest-length h = rw (ne_eqb _ _ h) refl

  module _ (long : length s ≡ ends_at s) where
    pub rest-roles : (e : ℕ) → e ≡ in_turn (role_judged s) (roles_of s) → (e ≡ 0 → ⊥) → e ≡ rest_judged s
    unfolding rest_judged refuse ◌or_else◌
    rest-roles e j n = rw (eq-eqb _ _ long, ← j) (sym (or_else-ne e _ n))

    module _ (r : in_turn (role_judged s) (roles_of s) ≡ 0) where
      pub rest-users : (e : ℕ) → e ≡ in_turn (row_judged 11 (users_of s) s (user_rows_at s)) (user_rows_of s) → (e ≡ 0 → ⊥) → e ≡ rest_judged s
      unfolding rest_judged refuse ◌or_else◌
      rest-users e j n = rw (eq-eqb _ _ long, r, ← j) (sym (or_else-ne e _ n))

      pub rest-permissions : (e : ℕ) → in_turn (row_judged 11 (users_of s) s (user_rows_at s)) (user_rows_of s) ≡ 0
          → e ≡ in_turn (row_judged 12 (permissions_of s) s (permission_rows_at s)) (permission_rows_of s) → e ≡ rest_judged s
      unfolding rest_judged refuse ◌or_else◌
      rest-permissions e u j = rw (eq-eqb _ _ long, r, u) j

  refused_as : (e : ℕ) → rota_judged s ≡ e → (e ≡ 0 → ⊥) → refused e ≡ layout_outcome s
  unfolding layout_outcome
  refused_as e j h = rw j (outcome-refused e _ h)

  pub by-header : (e : ℕ) → e ≡ header_judged s → (e ≡ 0 → ⊥) → refused e ≡ layout_outcome s
  unfolding rota_judged
  by-header e j h = refused_as e (rw (← j) (or_else-ne e _ h)) h

  module _ (h : header_judged s ≡ 0) where
    pub by-records : (e : ℕ) → e ≡ in_turn (record_judged s (cycle_of s) (header_length s)) (hours_of s) → (e ≡ 0 → ⊥) → refused e ≡ layout_outcome s
    unfolding rota_judged ◌or_else◌
    by-records e j n = refused_as e (rw (h, ← j) (or_else-ne e _ n)) n

    module _ (r : in_turn (record_judged s (cycle_of s) (header_length s)) (hours_of s) ≡ 0) where
      rest-is : rota_judged s ≡ rest_judged s
      unfolding rota_judged rest_judged ◌or_else◌
      rest-is = rw (h, r) refl

      pub by-rest : (e : ℕ) → e ≡ rest_judged s → (e ≡ 0 → ⊥) → refused e ≡ layout_outcome s
      by-rest e j n = refused_as e (rest-is ∙ sym j) n

      pub accepted : (l : Layout) → 0 ≡ rest_judged s → l ≡ layout_of s → given l ≡ layout_outcome s
      unfolding layout_outcome
      accepted l j q = ap given q ∙ outcome-given (rota_judged s) (layout_of s) (rest-is ∙ sym j)

-- what the layout's outcome tells a caller
module _ (s : List ℕ) where
  pub located : (l : Layout) → given l ≡ layout_outcome s → (rota_judged s ≡ 0) × (l ≡ layout_of s)
  unfolding layout_outcome
  located l e = given_by l _ _ e

  pub not-located : (n : ℕ) → refused n ≡ layout_outcome s → (rota_judged s ≡ n) × (rota_judged s ≡ 0 → ⊥)
  unfolding layout_outcome
  not-located n e = refused-by n _ _ e

  pub read-refused : (n : ℕ) → refused n ≡ layout_outcome s → refused n ≡ read_outcome s
  unfolding read_outcome
  read-refused n e = let r = not-located n e in rw (← r.0) (outcome-refused (rota_judged s) (counts_of s) r.1)

  pub read-given : (l : Layout) → given l ≡ layout_outcome s → given l.counts ≡ read_outcome s
  unfolding read_outcome layout_of
  read-given l e =
      let r = located l e in
      ap (λ (x : Layout). given x.counts) r.1 ∙ outcome-given (rota_judged s) (counts_of s) r.0

-- what follows the hours records, by the counts that the reader has
module _ (s : List ℕ) (n : Counts) (at : ℕ) (m : Measured s n at) (long : length s ≡ at + n.roles + 3 * n.user_rows + 3 * n.permission_rows) where
  counted : CountsAre s n
  counted = counts-are s n m.counts

  ends_so : length s ≡ ends_at s
  ends_so = let a = counted in omega (arith, long, m.ends, a.roles, a.user-rows, a.permission-rows)

  roles-as : in_turn (role_judged s) n.roles ≡ in_turn (role_judged s) (roles_of s)
  roles-as = let a = counted in ap (in_turn (role_judged s)) a.roles

  pub by-roles : (e : ℕ) → e ≡ in_turn (role_judged s) n.roles → (e ≡ 0 → ⊥) → e ≡ rest_judged s
  by-roles e j some = rest-roles s ends_so e (j ∙ roles-as) some

  module _ (r : 0 ≡ in_turn (role_judged s) n.roles) where
    roles-so : in_turn (role_judged s) (roles_of s) ≡ 0
    roles-so = sym (r ∙ roles-as)

    users-as : in_turn (row_judged 11 n.users s (at + n.roles)) n.user_rows ≡ in_turn (row_judged 11 (users_of s) s (user_rows_at s)) (user_rows_of s)
    users-as = let a = counted in rows_as s 11 a.users (omega (arith, m.ends, a.roles)) a.user-rows

    pub by-users : (e : ℕ) → e ≡ in_turn (row_judged 11 n.users s (at + n.roles)) n.user_rows → (e ≡ 0 → ⊥) → e ≡ rest_judged s
    by-users e j some = rest-users s ends_so roles-so e (j ∙ users-as) some

    pub by-permissions : (e : ℕ) → 0 ≡ in_turn (row_judged 11 n.users s (at + n.roles)) n.user_rows
        → e ≡ in_turn (row_judged 12 n.permissions s (at + n.roles + 3 * n.user_rows)) n.permission_rows → e ≡ rest_judged s
    by-permissions e j k =
        let a = counted in
        rest-permissions s ends_so roles-so e (sym (j ∙ users-as))
        (k ∙ rows_as s 12 a.permissions (omega (arith, m.ends, a.roles, a.user-rows)) a.permission-rows)
