-- Unsigned numbers in a list of bytes, low byte first. Past the end a byte reads as 0.
use Rattle.std.specs.Prelude.{ℕ, ◌+◌, ◌*◌, ◌/◌, ◌%◌, ◌<◌, List, [], ◌∷◌, ◌++◌, get_or}

-- every element is a byte
abbrev pub Bytes : List ℕ → Type 0
Bytes s = (i : ℕ) → get_or s i 0 < 256

-- the number that stands at a position
abbrev pub u8_at : List ℕ → ℕ → ℕ
u8_at s at = get_or s at 0

unfoldable pub u16_at : List ℕ → ℕ → ℕ
u16_at s at = u8_at s at + 256 * u8_at s (at + 1)

unfoldable pub u32_at : List ℕ → ℕ → ℕ
u32_at s at = u16_at s at + 65536 * u16_at s (at + 2)

unfoldable pub u64_at : List ℕ → ℕ → ℕ
u64_at s at = u32_at s at + 4294967296 * u32_at s (at + 4)

-- the bytes of a number
abbrev pub bytes8 : ℕ → List ℕ
bytes8 v = v ∷ []

unfoldable pub bytes16 : ℕ → List ℕ
bytes16 v = v % 256 ∷ v / 256 ∷ []

unfoldable pub bytes32 : ℕ → List ℕ
bytes32 v = bytes16 (v % 65536) ++ bytes16 (v / 65536)

unfoldable pub bytes64 : ℕ → List ℕ
bytes64 v = bytes32 (v % 4294967296) ++ bytes32 (v / 4294967296)
