-- Two small hierarchies: a chain that is broken in its middle at some minutes, and a diamond.
use Rattle.std.specs.Prelude.{ℕ, ◌≡◌, Bool, true, false, ◌&&◌, ◌||◌, not, List, [], ◌∷◌, eqb, leb, ltb}
use Rattle.rota_pairs.specs.Hierarchy.{Pairing, reaches}

abbrev pair : ℕ → ℕ → Pairing
pair r q = record { senior = r; junior = q }

-- 2 is the senior of 1, and 1 of 0
abbrev pub three : List Pairing
three = pair 1 0 ∷ pair 2 1 ∷ []

-- role 1 is enabled from minute 10 to before 20, the others always
abbrev pub middle : ℕ → ℕ → Bool
middle t r = not (eqb r 1) || (leb 10 t && ltb t 20)

-- 3 is the senior of 2 and of 1, and both are seniors of 0
abbrev pub diamond : List Pairing
diamond = pair 3 2 ∷ pair 3 1 ∷ pair 2 0 ∷ pair 1 0 ∷ []

-- all roles but one are enabled
abbrev pub without : ℕ → ℕ → Bool
without x r = not (eqb r x)

pub record WorkedChains : Type 0 where
  -- through role 1 while it is enabled, its first minute included and its last
  pub at-10 : (reaches three (middle 10) 3 2 0 ≡ true) × (reaches three (middle 10) 3 2 1 ≡ true)
  pub at-19 : reaches three (middle 19) 3 2 0 ≡ true
  -- neither it nor what is below it, while it is not; and it has no junior's rights then
  pub at_9 : (reaches three (middle 9) 3 2 1 ≡ false) × (reaches three (middle 9) 3 2 0 ≡ false) × (reaches three (middle 9) 3 1 0 ≡ false)
  pub at-20 : reaches three (middle 20) 3 2 0 ≡ false
  -- its own it has at any minute; and no senior's
  pub own : (reaches three (middle 9) 3 1 1 ≡ true) × (reaches three (middle 10) 3 0 2 ≡ false)
  -- one way down is enough; with both broken there is none; nor with an end that is not enabled
  pub either_way : (reaches diamond (without 1) 4 3 0 ≡ true) × (reaches diamond (without 2) 4 3 0 ≡ true)
  pub neither : reaches diamond (λ r. without 1 r && without 2 r) 4 3 0 ≡ false
  pub ends : (reaches diamond (without 3) 4 3 0 ≡ false) × (reaches diamond (without 0) 4 3 0 ≡ false)
