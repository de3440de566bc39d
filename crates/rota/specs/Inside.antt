-- What the steps inside promise each other and the crates above, which no reader has to believe.
use Rattle.std.specs.Prelude.{ℕ, ◌+◌, ◌*◌, ◌≤◌, ◌≡◌, not, List, eqb, length}
use Rattle.std.proofs.Props.{props}
use Rattle.ground.specs.Believed.Judgement.{refuse, ◌or_else◌, in_turn}
use Rattle.ground.specs.Believed.Outcome.{Outcome, outcome}
use Rattle.rota.specs.Believed.RotaBytes.{header_length, hours_of, users_of, permissions_of, roles_of, user_rows_of, permission_rows_of, roles_at, user_rows_at, permission_rows_at, ends_at}
use Rattle.rota.specs.Believed.RotaRefusals.{header_judged, role_judged, row_judged, rota_judged}
use Rattle.rota.specs.Believed.Answers.{counts_of}
use Rattle.rota.specs.declared.Counts.{Counts}
use Rattle.rota.specs.declared.Layout.{Layout}
use Rattle.rota.specs.declared.Rows.{Rows}

-- the counts, and where hours records, role bytes and rows begin
unfoldable pub layout_of : List ℕ → Layout
layout_of s =
    record {
      counts = counts_of s;
      hours_at = header_length s;
      roles_at = roles_at s;
      user_rows_at = user_rows_at s;
      permission_rows_at = permission_rows_at s;
    }

unfoldable pub layout_outcome : List ℕ → Outcome Layout
layout_outcome s = outcome (rota_judged s) (layout_of s)

-- what follows the hours records
unfoldable pub rest_judged : List ℕ → ℕ
rest_judged s =
    refuse 9 (not (eqb (length s) (ends_at s)))
    or_else in_turn (role_judged s) (roles_of s)
    or_else in_turn (row_judged 11 (users_of s) s (user_rows_at s)) (user_rows_of s)
    or_else in_turn (row_judged 12 (permissions_of s) s (permission_rows_at s)) (permission_rows_of s)

-- the counts are those of a header that is not refused, and the hours records end at `at`, within the bytes
pub record Measured (s : List ℕ) (n : Counts) (at : ℕ) : Type 0 where
  pub header : header_judged s ≡ 0
  pub counts : n ≡ counts_of s
  pub ends : at ≡ roles_at s
  pub within : at ≤ length s

-- rows are to be judged by the header's counts, and lie within the bytes
pub record RowsKnown (s : List ℕ) (n : Counts) (rows : Rows) : Type 0 where
  pub within : rows.at + 3 * rows.n ≤ length s
  pub hours : n.hours ≡ hours_of s
  pub roles-are : n.roles ≡ roles_of s
  pub hours-most : n.hours ≤ 32
  pub roles-most : n.roles ≤ 32
  pub top-most : rows.top ≤ 64

-- a caller has an accepted rota's layout
pub record Located (s : List ℕ) (l : Layout) : Type 0 where
  pub accepted : rota_judged s ≡ 0
  pub layout : l ≡ layout_of s

-- two proofs of it are equal, as a field of proofs asks
pub Located-prop : (s : List ℕ) (l : Layout) → IsProp (Located s l)
Located-prop s l = Prim.hlevel props
