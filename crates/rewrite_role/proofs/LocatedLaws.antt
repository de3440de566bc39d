-- What an accepted rota's layout says of its role bytes and rows.
-- Assumes nothing.
use Prim.Native.Nat.{ℕ, ◌+◌, ◌*◌, ◌≤◌, ◌<◌}
use mathlib.Core.Path.{◌≡◌, ◌∙◌, ap}
use mathlib.Core.List.{List}
use native.Mathlib.Omega.{arith}
use lib.ListN.{length}
use Rattle.ground.specs.Believed.Sequence.{list_of}
use Rattle.ground.proofs.SequenceLaws.{get-list_of}
use Rattle.hours.specs.Believed.Hours.{ref_of}
use Rattle.hours.specs.declared.HoursRef.{HoursRef}
use Rattle.hours.specs.declared.HoursRef.TheVariants.{Numbered}
use Rattle.endian.specs.Believed.Numbers.{u8_at}
use Rattle.rota.specs.Believed.RotaBytes.{cycle_of, hours_of, users_of, permissions_of, roles_of, user_rows_of, permission_rows_of, user_rows_at, permission_rows_at, role_ref, row_at, rota_of}
use Rattle.rota.specs.declared.Layout.{Layout}
use Rattle.rota.proofs.RotaFine.{RowFine}
use Rattle.rota.proofs.LocatedLaws.{fine, counted, roles-at, user-rows-at, permission-rows-at}
use Rattle.rewrite_rules.specs.Masks.{slot_of}
use Rattle.rewrite_sets.specs.Role.{by_slot, role_of}
use Rattle.rewrite_sets.specs.declared.Role.{Role}
use Rattle.rewrite_sets.proofs.RoleLaws.{slot_small}
use Rattle.rota.specs.Inside.{Located}
use Rattle.rewrite_role.specs.Parts.{RowsFit}

rows_fit : (s : List ℕ) (top at n : ℕ) → top ≤ 64 → hours_of s ≤ 32 → at + 3 * n ≤ length s → ((k : ℕ) → k < n → RowFine s top at k) → RowsFit s at n
rows_fit s top at n t h i f = record { inside = i; few-hours = h; numbers = λ k l. omega (arith, (f k l).number); hours = λ k l. (f k l).hours }

module _ (s : List ℕ) (l : Layout) (w : Located s l) where
  pub role-inside : (r : ℕ) → r < roles_of s → l.roles_at + r < length s
  role-inside r h = omega (arith, (fine s l w).ended, roles-at s l w)

  pub users-fit : RowsFit s l.user_rows_at l.counts.user_rows
  users-fit =
      rw (user-rows-at s l w, (counted s l w).user-rows)
      (rows_fit s (users_of s) (user_rows_at s) (user_rows_of s) (fine s l w).header.users-most (fine s l w).header.hours-most (omega (arith, (fine s l w).ended)) (fine s l w).user-rows)

  pub permissions-fit : RowsFit s l.permission_rows_at l.counts.permission_rows
  permissions-fit =
      rw (permission-rows-at s l w, (counted s l w).permission-rows)
      (rows_fit s (permissions_of s) (permission_rows_at s) (permission_rows_of s) (fine s l w).header.permissions-most (fine s l w).header.hours-most (omega (arith, (fine s l w).ended)) (fine s l w).permission-rows)

  pub role-is : (r : ℕ) (ref : HoursRef) (on : ℕ) (us ps : List ℕ) → r < roles_of s → ref ≡ ref_of (u8_at s (l.roles_at + r)) → on ≡ slot_of ref
      → us ≡ by_slot (list_of l.counts.user_rows (row_at s l.user_rows_at)) r
      → ps ≡ by_slot (list_of l.counts.permission_rows (row_at s l.permission_rows_at)) r
      → ◌≡◌ {A = Role} (record { source = r; on = on; users = us; permissions = ps }) (role_of (rota_of s) r)
  unfolding role_of rota_of
  role-is r ref on us ps h er eo eu ep =
      let o : on ≡ slot_of (role_ref s r) = eo ∙ ap slot_of (er ∙ ap (λ (k : ℕ). ref_of (u8_at s (k + r))) (roles-at s l w)) in
      let u : us ≡ by_slot (list_of (user_rows_of s) (row_at s (user_rows_at s))) r = rw (user-rows-at s l w, (counted s l w).user-rows) at eu in
      let p : ps ≡ by_slot (list_of (permission_rows_of s) (row_at s (permission_rows_at s))) r = rw (permission-rows-at s l w, (counted s l w).permission-rows) at ep in
      let g = get-list_of (roles_of s) (role_ref s) (Numbered (length (rota_of s).hours)) r h in
      rw (g) (λ i. record { source = r; on = o i; users = u i; permissions = p i })

  pub role-on : (r : ℕ) (x : Role) → r < roles_of s → x ≡ role_of (rota_of s) r → x.on < 33
  unfolding role_of rota_of
  role-on r x h e =
      let o : x.on ≡ slot_of (role_ref s r) = ap (λ (y : Role). y.on) e ∙ ap slot_of (get-list_of (roles_of s) (role_ref s) (Numbered (length (rota_of s).hours)) r h) in
      omega (arith, slot_small (hours_of s) (role_ref s r) (fine s l w).header.hours-most ((fine s l w).roles r h))

  pub roles-are : (l.counts.roles ≡ roles_of s) × (roles_of s ≤ 32)
  roles-are = ((counted s l w).roles, (fine s l w).header.roles-most)

  pub cycle-fits : cycle_of s ≤ 65535
  cycle-fits = omega (arith, (fine s l w).header.cycle-most)
