-- What the steps promise each other and the crates above, which no reader has to believe: the hours records that those who hold a permission rest on.
use Rattle.std.specs.Prelude.{ℕ, ◌%◌, ◌^◌, ◌<◌, ◌≡◌, Bool, true, ◌&&◌, not, List, eqb, length, get_or}
use Rattle.ground.specs.Believed.Search.{any_below}
use Rattle.bitset.specs.Believed.Sets.{has, set_of, insert, intersection}
use Rattle.hours.specs.declared.HoursRef.{HoursRef}
use Rattle.hours.specs.declared.HoursRef.TheVariants.{Always, Numbered}
use Rattle.rota.specs.Believed.RotaBytes.{roles_of, user_rows_at, permission_rows_at, permission_rows_of, row_at}
use Rattle.rota_answers.specs.Gathered.{row_in, roles_enabled, roles_assigned, holders_by}

-- a reference by number: that of its record, and 63, which no record has, for always
unfoldable pub number_of : HoursRef → ℕ
number_of Always = 63
number_of (Numbered k) = k % 64

-- for each role, the hours of those of the n rows from `at` on that give it to a permission
pub record Permitted (s : List ℕ) (at n : ℕ) (sets : List ℕ) : Type 0 where
  pub long : length sets ≡ 32
  pub is : (r x : ℕ) → r < 32 → x < 64 → has (get_or sets r 0) x ≡ any_below n (λ k. eqb (row_at s at k).role r && eqb (number_of (row_at s at k).hours) x)

-- whether a set of hours has some that hold, by the set of the records that hold
abbrev pub meets : ℕ → ℕ → Bool
meets hours set = not (eqb (intersection hours (insert set 63)) 0)

-- of n roles, those with a permission
unfoldable pub roles_given : ℕ → List ℕ → ℕ → ℕ
roles_given set sets n = set_of n (λ r. meets (get_or sets r 0) set)

-- the enabled roles that some row gives to a permission
unfoldable pub live_by : List ℕ → ℕ → ℕ
live_by s set = intersection (roles_enabled s set (roles_of s)) (roles_assigned s set (permission_rows_at s) (permission_rows_of s))

-- user row k gives one of the live roles
abbrev pub gives : List ℕ → ℕ → ℕ → Bool
gives s set k = has (live_by s set) (row_at s (user_rows_at s) k).role && row_in s set (user_rows_at s) k

-- some of the records that hold: those of `on`, and enough more of them for the user of row k
pub record Grown (s : List ℕ) (set on k more : ℕ) : Type 0 where
  pub small : more < 2 ^ 64
  pub within : (i : ℕ) → has more i ≡ true → has set i ≡ true
  pub keeps : (i : ℕ) → i < 64 → has on i ≡ true → has set i ≡ true → has more i ≡ true
  pub rests : has (holders_by s more) (row_at s (user_rows_at s) k).number ≡ true

-- those of `among` who hold a permission are found, and they do by some of the records that hold
pub record Resting (s : List ℕ) (set among found on : ℕ) : Type 0 where
  pub is : found ≡ intersection among (holders_by s set)
  pub within : (i : ℕ) → has on i ≡ true → has set i ≡ true
  pub rests : (u : ℕ) → has found u ≡ true → has (holders_by s on) u ≡ true
