-- What the header's writer promises.
use Rattle.std.specs.Prelude.{ℕ, List, ◌++◌}
use Rattle.endian.specs.Believed.Numbers.{bytes8, bytes16}

-- the bytes of a header before its two counts
unfoldable pub limits_bytes : ℕ → ℕ → ℕ → ℕ → List ℕ
limits_bytes cycle users permissions roles = bytes16 2 ++ bytes16 cycle ++ bytes8 users ++ bytes8 permissions ++ bytes16 roles
