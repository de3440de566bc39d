-- How far what is so at a minute lasts: what the steps of a sweep over minutes promise each other, which no reader has to believe.
use Rattle.std.specs.Prelude.{ℕ, ◌+◌, ◌*◌, ◌≤◌, ◌<◌, ◌≡◌, Bool, true}

-- f holds from t to before `until`, and any number of cycles of c minutes after such a minute, to before `era`
pub record Lasting (f : ℕ → Bool) (c t until era : ℕ) : Type 0 where
  pub each : (v k : ℕ) → t ≤ v → v < until → v + k * c < era → f (v + k * c) ≡ true
