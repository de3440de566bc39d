-- Document 01's small rota S ("Worked minutes"): its bytes, and the answers that 01 gives for it.
use Rattle.std.specs.Prelude.{ℕ, ◌≡◌, List, [], ◌∷◌, None, Some}
use Rattle.rota.specs.Believed.Rota.{answer}
use Rattle.rota.specs.Believed.RotaBytes.{rota_of}

-- the 54 bytes of S: C 10; hours 0 is 0 to 20, pairs (0, 4) and (6, 2); hours 1 is 10 to 40, pair (2, 5); role 0 always; users 0 and 1 in
-- hours 0 and 1; permission 0 always
abbrev pub small : List ℕ
small =
    1 ∷ 0 ∷ 10 ∷ 0 ∷ 2 ∷ 2 ∷ 1 ∷ 1 ∷ 2 ∷ 0 ∷ 1 ∷ 0
    ∷ 0 ∷ 0 ∷ 0 ∷ 0 ∷ 20 ∷ 0 ∷ 0 ∷ 0 ∷ 2 ∷ 0 ∷ 0 ∷ 0 ∷ 4 ∷ 0 ∷ 6 ∷ 0 ∷ 2 ∷ 0
    ∷ 10 ∷ 0 ∷ 0 ∷ 0 ∷ 40 ∷ 0 ∷ 0 ∷ 0 ∷ 1 ∷ 0 ∷ 2 ∷ 0 ∷ 5 ∷ 0
    ∷ 255 ∷ 0 ∷ 0 ∷ 0 ∷ 1 ∷ 0 ∷ 1 ∷ 0 ∷ 0 ∷ 255 ∷ []

-- minute 3, user 0 yes role 0; 4 no, for both; 12, both yes; 36, user 1 yes; 37 and 40 no, for both
pub record WorkedMinutes : Type 0 where
  pub at-3 : answer (rota_of small) 0 0 3 ≡ Some 0
  pub at-4 : (answer (rota_of small) 0 0 4 ≡ None) × (answer (rota_of small) 1 0 4 ≡ None)
  pub at-12 : answer (rota_of small) 0 0 12 ≡ Some 0
  pub at-12-too : answer (rota_of small) 1 0 12 ≡ Some 0
  pub at-36 : answer (rota_of small) 1 0 36 ≡ Some 0
  pub at-37 : (answer (rota_of small) 0 0 37 ≡ None) × (answer (rota_of small) 1 0 37 ≡ None)
  pub at-40 : (answer (rota_of small) 0 0 40 ≡ None) × (answer (rota_of small) 1 0 40 ≡ None)
