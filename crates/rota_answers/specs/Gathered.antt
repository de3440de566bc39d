-- What the steps promise each other: the sets that loops gather from role bytes and rows.
use Rattle.std.specs.Prelude.{ℕ, ◌+◌, ◌*◌, ◌≤◌, ◌<◌, ◌≡◌, Bool, false, ◌&&◌, List, eqb, length}
use Rattle.std.proofs.Props.{props}
use Rattle.ground.specs.Believed.Search.{any_below}
use Rattle.bitset.specs.Believed.Sets.{has, set_of, intersection}
use Rattle.hours.specs.Believed.Hours.{dangling}
use Rattle.hours.specs.Inside.{holding, ref_in}
use Rattle.rota.specs.Believed.RotaBytes.{header_length, cycle_of, hours_of, users_of, roles_of, user_rows_of, permission_rows_of, roles_at, user_rows_at, permission_rows_at, role_ref, row_at}
use Rattle.rota.specs.RotaWell.{RowWell}

-- n rows from `at` on lie within the bytes and keep their ranges
pub record RowsFine (s : List ℕ) (top at n : ℕ) : Type 0 where
  pub within : at + 3 * n ≤ length s
  pub each : (k : ℕ) → k < n → RowWell top (roles_of s) (hours_of s) (row_at s at k)

-- the rows of one kind of an accepted rota, where there are h hours records
pub record RowsLent (s : List ℕ) (h top at n : ℕ) : Type 0 where
  pub fine : RowsFine s top at n
  pub hours : h ≡ hours_of s
  pub hours-most : h ≤ 32
  pub roles-most : roles_of s ≤ 32
  pub top-most : top ≤ 64

-- two proofs of it are equal, as a field of proofs asks
pub RowsLent-prop : (s : List ℕ) (h top at n : ℕ) → IsProp (RowsLent s h top at n)
RowsLent-prop s h top at n = Prim.hlevel props

-- n role bytes from `at` on lie within the bytes and name hours that there are
pub record RolesFine (s : List ℕ) (at n : ℕ) : Type 0 where
  pub place : at ≡ roles_at s
  pub within : at + n ≤ length s
  pub few : n ≤ 32
  pub each : (k : ℕ) → k < n → dangling (hours_of s) (role_ref s k) ≡ false

-- the hours records of a rota's bytes that hold at t
abbrev pub held : List ℕ → ℕ → ℕ
held s t = holding s (cycle_of s) (header_length s) (hours_of s) t

-- row k of those from `at` on has hours that are in the set of the records that hold
abbrev pub row_in : List ℕ → ℕ → ℕ → ℕ → Bool
row_in s set at k = ref_in set (row_at s at k).hours

-- the roles that some row gives to number x
unfoldable pub roles_of_number : List ℕ → ℕ → ℕ → ℕ → ℕ → ℕ
roles_of_number s set at n x =
    set_of (roles_of s) (λ r. any_below n (λ k. eqb (row_at s at k).number x && row_in s set at k && eqb (row_at s at k).role r))

-- the roles that some row gives to anyone
unfoldable pub roles_assigned : List ℕ → ℕ → ℕ → ℕ → ℕ
roles_assigned s set at n = set_of (roles_of s) (λ r. any_below n (λ k. row_in s set at k && eqb (row_at s at k).role r))

-- the roles that are enabled
unfoldable pub roles_enabled : List ℕ → ℕ → ℕ → ℕ
roles_enabled s set n = set_of n (λ r. ref_in set (role_ref s r))

-- the users to whom some row gives one of these roles
unfoldable pub users_with : List ℕ → ℕ → ℕ → ℕ → ℕ → ℕ
users_with s set roles at n =
    set_of (users_of s) (λ u. any_below n (λ k. has roles (row_at s at k).role && row_in s set at k && eqb (row_at s at k).number u))

-- the enabled roles that some row gives to user u and some row to permission p
unfoldable pub question_roles : List ℕ → ℕ → ℕ → ℕ → ℕ
question_roles s set u p =
    intersection (intersection (roles_enabled s set (roles_of s)) (roles_of_number s set (user_rows_at s) (user_rows_of s) u))
    (roles_of_number s set (permission_rows_at s) (permission_rows_of s) p)

-- the users to whom some row gives an enabled role that some row gives to a permission
unfoldable pub holders_by : List ℕ → ℕ → ℕ
holders_by s set =
    users_with s set (intersection (roles_enabled s set (roles_of s)) (roles_assigned s set (permission_rows_at s) (permission_rows_of s))) (user_rows_at s)
    (user_rows_of s)
