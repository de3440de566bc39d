-- A rota and what it means (document 01, "The rota's bytes"). The meaning follows document 003: a role is enabled by the enabling text of its
-- section 2.1; a user is assigned to a role, a permission to a role, and a user acquires a permission through a role by axioms 1 to 3 of its
-- Table 3, each at the minutes of its own hours.
use Rattle.std.specs.Prelude.{ℕ, Bool, ◌&&◌, List, eqb, length, get_or, Option}
use Rattle.ground.specs.Believed.Search.{any, lowest_below}
use Rattle.hours.specs.Believed.Hours.{Hours, ref_holds}
use Rattle.hours.specs.declared.HoursRef.{HoursRef}
use Rattle.hours.specs.declared.HoursRef.TheVariants.{Numbered}
use Rattle.policy.specs.Believed.Policy.{Policy}

-- an assignment: the number of a user or of a permission, the role, and the hours in which it holds
pub record Row : Type 0 where
  pub number : ℕ
  pub role : ℕ
  pub hours : HoursRef

pub record Rota : Type 0 where
  -- 1, or 3, which fixes the order of rows
  pub format : ℕ
  pub cycle : ℕ
  pub users : ℕ
  pub permissions : ℕ
  pub hours : List Hours
  -- for each role, the hours in which it is enabled
  pub roles : List HoursRef
  pub user-rows : List Row
  pub permission-rows : List Row

-- the hours that a reference names hold at t
abbrev pub ref_on : Rota → HoursRef → ℕ → Bool
ref_on ρ h t = ref_holds ρ.cycle ρ.hours h t

-- the hours in which role r is enabled; for a role past the last, a reference past the last record, whose hours never hold
abbrev pub role_hours : Rota → ℕ → HoursRef
role_hours ρ r = get_or ρ.roles r (Numbered (length ρ.hours))

-- role r is enabled at t
unfoldable pub enabled : Rota → ℕ → ℕ → Bool
enabled ρ r t = ref_on ρ (role_hours ρ r) t

-- some row of number x and role r has hours that hold at t: rows of one number and role give their union
unfoldable pub assigned : Rota → List Row → ℕ → ℕ → ℕ → Bool
assigned ρ rows x r t = any (λ (w : Row). eqb w.number x && eqb w.role r && ref_on ρ w.hours t) rows

-- role r has user u at t, and permission p
unfoldable pub has_user : Rota → ℕ → ℕ → ℕ → Bool
has_user ρ u r t = assigned ρ ρ.user-rows u r t

unfoldable pub has_permission : Rota → ℕ → ℕ → ℕ → Bool
has_permission ρ p r t = assigned ρ ρ.permission-rows p r t

-- user u may use permission p at t through role r
unfoldable pub through : Rota → ℕ → ℕ → ℕ → ℕ → Bool
through ρ u p t r = enabled ρ r t && has_user ρ u r t && has_permission ρ p r t

-- yes with the lowest such role, or no
unfoldable pub answer : Rota → ℕ → ℕ → ℕ → Option ℕ
answer ρ u p t = lowest_below (length ρ.roles) (through ρ u p t)

abbrev pub policy_of : Rota → Policy
policy_of ρ = record { users = ρ.users; permissions = ρ.permissions; answer = answer ρ }
