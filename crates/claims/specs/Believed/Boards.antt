-- What the board of a table that was rewritten shows of its rota (document 02, item 5, over demand 3), as one claim. `board-agrees` of
-- proofs/BoardAgreed.antt proves it.
use Rattle.std.specs.Prelude.{ℕ, ◌≡◌, Bool, ◌&&◌, List, length}
use Rattle.ground.specs.Believed.Search.{any_below, count_below}
use Rattle.rota.specs.Believed.Rota.{Rota, enabled, has_user, has_permission}
use Rattle.rota.specs.Believed.Rota as rota
use Rattle.rota.specs.Believed.RotaBytes.{rota_of}
use Rattle.table.specs.Believed.Table as table
use Rattle.table.specs.Believed.TableBytes.{table_of}
use Rattle.table_board.specs.Believed.Board.{board_of, rows_at}

-- role r is enabled at t, and has a user and a permission
abbrev pub acting : Rota → ℕ → ℕ → Bool
acting ρ t r = enabled ρ r t && any_below ρ.users (λ u. has_user ρ u r t) && any_below ρ.permissions (λ p. has_permission ρ p r t)

-- of a rota's bytes s, a table's bytes and a minute: each set has the permissions that the rota gives its user; and so many rows count as roles of the
-- rota are enabled and have a user and a permission
pub record BoardAgrees (s bytes : List ℕ) (t : ℕ) : Type 0 where
  pub sets : board_of (table.policy_of (table_of bytes)) t ≡ board_of (rota.policy_of (rota_of s)) t
  pub count : rows_at (table_of bytes) t ≡ count_below (length (rota_of s).roles) (acting (rota_of s) t)
