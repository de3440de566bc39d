-- The counts of the header, field by field.
-- Assumes nothing.
use Prim.Native.Nat.{ℕ, ◌+◌, ◌*◌, ◌≤◌}
use mathlib.Core.Path.{◌≡◌, ap}
use mathlib.Core.List.{List}
use native.Mathlib.Omega.{arith}
use lib.ListN.{length}
use Rattle.ground.specs.Believed.Judgement.{in_turn}
use Rattle.hours.specs.Believed.HoursBytes.{record_at}
use Rattle.hours.specs.Believed.HoursRefusals.{record_judged}
use Rattle.rota.specs.Believed.RotaBytes.{header_length, format_of, cycle_of, hours_of, users_of, permissions_of, roles_of, user_rows_of, permission_rows_of, roles_at, user_rows_at, permission_rows_at}
use Rattle.rota.specs.Believed.Answers.{counts_of}
use Rattle.rota.specs.Inside.{layout_of, Measured, RowsKnown}
use Rattle.rota.specs.declared.Counts.{Counts}
use Rattle.rota.specs.declared.Rows.{Rows}
use Rattle.rota.proofs.RotaFine.{HeaderFine}

pub record CountsAre (s : List ℕ) (n : Counts) : Type 0 where
  pub cycle : n.cycle ≡ cycle_of s
  pub hours : n.hours ≡ hours_of s
  pub users : n.users ≡ users_of s
  pub permissions : n.permissions ≡ permissions_of s
  pub roles : n.roles ≡ roles_of s
  pub user-rows : n.user_rows ≡ user_rows_of s
  pub permission-rows : n.permission_rows ≡ permission_rows_of s
  pub format : n.format ≡ format_of s

module _ (s : List ℕ) where
  pub counts-are : (n : Counts) → n ≡ counts_of s → CountsAre s n
  unfolding counts_of
  counts-are n e =
      record {
        cycle = ap (λ (x : Counts). x.cycle) e;
        hours = ap (λ (x : Counts). x.hours) e;
        users = ap (λ (x : Counts). x.users) e;
        permissions = ap (λ (x : Counts). x.permissions) e;
        roles = ap (λ (x : Counts). x.roles) e;
        user-rows = ap (λ (x : Counts). x.user_rows) e;
        permission-rows = ap (λ (x : Counts). x.permission_rows) e;
        format = ap (λ (x : Counts). x.format) e;
      }

  pub counts-by : (n : Counts) → CountsAre s n → n ≡ counts_of s
  unfolding counts_of
  counts-by n a = λ i.
      record {
        cycle = a.cycle i;
        hours = a.hours i;
        users = a.users i;
        permissions = a.permissions i;
        roles = a.roles i;
        user_rows = a.user-rows i;
        permission_rows = a.permission-rows i;
        format = a.format i;
      }

  pub layout-by : (n : Counts) (hours at first second : ℕ) → n ≡ counts_of s → hours ≡ header_length s → at ≡ roles_at s → first ≡ user_rows_at s
      → second ≡ permission_rows_at s
      → record { counts = n; hours_at = hours; roles_at = at; user_rows_at = first; permission_rows_at = second } ≡ layout_of s
  unfolding layout_of
  layout-by n hours at first second e h p q r = λ i. record { counts = e i; hours_at = h i; roles_at = p i; user_rows_at = q i; permission_rows_at = r i }

-- the walk over the hours records with the header's own cycle, length and count
module _ {s : List ℕ} {n : Counts} {from : ℕ} (a : CountsAre s n) (b : from ≡ header_length s) where
  pub records-as : {e : ℕ} → e ≡ in_turn (record_judged s n.cycle from) n.hours → e ≡ in_turn (record_judged s (cycle_of s) (header_length s)) (hours_of s)
  records-as h = rw (a.cycle, b, a.hours) at h

  pub records-end : {at : ℕ} → at ≡ record_at s from n.hours → at ≡ roles_at s
  records-end h = rw (b, a.hours) at h

-- rows within the bytes, with the header's counts
pub rows-known : {s : List ℕ} {n : Counts} {at : ℕ} → Measured s n at → HeaderFine s → (rows : Rows) → rows.at + 3 * rows.n ≤ length s → rows.top ≤ 64 → RowsKnown s n rows
rows-known {s} {n} w f rows within few =
    let a = counts-are s n w.counts in
    record {
      within = within;
      hours = a.hours;
      roles-are = a.roles;
      hours-most = omega (arith, a.hours, f.hours-most);
      roles-most = omega (arith, a.roles, f.roles-most);
      top-most = few;
    }
