-- The header: the fields of its counts, and what is known of one that is not refused.
-- Assumes nothing.
use Prim.Native.Nat.{ℕ, ◌+◌, ◌*◌, ◌≤◌, ◌<◌}
use mathlib.Core.Path.{◌≡◌, ap}
use mathlib.Core.List.{List}
use native.Mathlib.Omega.{arith}
use lib.ListN.{length}
use Rattle.table.proofs.FineLaws.{header-fine}
use Rattle.table.specs.Believed.TableBytes.{cycle_of, users_of, permissions_of, roles_of, derived_of, rows_of}
use Rattle.table.specs.Believed.Answers.{counts_of}
use Rattle.table.specs.Inside.{Headed}
use Rattle.table.specs.declared.Counts.{Counts}

pub record CountsAre (s : List ℕ) (n : Counts) : Type 0 where
  pub cycle : n.cycle ≡ cycle_of s
  pub users : n.users ≡ users_of s
  pub permissions : n.permissions ≡ permissions_of s
  pub roles : n.roles ≡ roles_of s
  pub derived : n.derived ≡ derived_of s
  pub rows : n.rows ≡ rows_of s

pub counts-are : (s : List ℕ) (n : Counts) → n ≡ counts_of s → CountsAre s n
unfolding counts_of
counts-are s n e =
    record {
      cycle = ap (λ (m : Counts). m.cycle) e;
      users = ap (λ (m : Counts). m.users) e;
      permissions = ap (λ (m : Counts). m.permissions) e;
      roles = ap (λ (m : Counts). m.roles) e;
      derived = ap (λ (m : Counts). m.derived) e;
      rows = ap (λ (m : Counts). m.rows) e;
    }

-- what is known of a header that is accepted, of the counts that were read
pub record Laid (s : List ℕ) (n : Counts) : Type 0 where
  pub cycle-some : 0 < n.cycle
  pub users-most : n.users ≤ 64
  pub permissions-most : n.permissions ≤ 64
  pub whole : length s ≡ 16 + 17 * n.derived + 16 * n.rows

pub laid : (s : List ℕ) (n : Counts) → Headed s n → Laid s n
laid s n h =
    let f = counts-are s n h.counts in
    let g = header-fine s h.clear in
    record {
      cycle-some = omega arith;
      users-most = omega arith;
      permissions-most = omega arith;
      whole = omega arith;
    }
