-- Refusals in order. A judgement is a number: 0 where nothing is refused, else the number of the refusal.
use Rattle.std.specs.Prelude.{ℕ, zero, suc, Bool, true, false}

infixr 20 ◌or_else◌
-- n where the test holds
unfoldable pub refuse : ℕ → Bool → ℕ
refuse n true = n
refuse n false = 0

-- the first of two judgements that refuses
unfoldable pub ◌or_else◌ : ℕ → ℕ → ℕ
zero or_else b = b
(suc a) or_else b = suc a

-- the first refusal of f 0, f 1, .., f (n - 1)
unfoldable pub in_turn : (ℕ → ℕ) → ℕ → ℕ
in_turn f zero = 0
in_turn f (suc n) = in_turn f n or_else f n
