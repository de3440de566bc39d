-- What the steps promise each other, which no reader has to believe: the bytes of a tidy rota, part by part.
use Rattle.std.specs.Prelude.{ℕ, ◌-◌, List, ◌++◌, take, drop}
use Rattle.endian.specs.Believed.Numbers.{bytes16}
use Rattle.rota.specs.Believed.RotaBytes.{header_length, user_rows_of, permission_rows_of, user_rows_at, permission_rows_at}
use Rattle.tidy_rules.specs.Inside.{kind_bytes}

-- the header with a and b rows: six of its bytes are those of the rota's own
abbrev pub head_bytes : List ℕ → ℕ → ℕ → List ℕ
head_bytes s a b = bytes16 3 ++ take 6 (drop 2 s) ++ bytes16 a ++ bytes16 b

-- hours records and role bytes
abbrev pub middle_bytes : List ℕ → List ℕ
middle_bytes s = take (user_rows_at s - header_length s) (drop (header_length s) s)

-- the rows of both kinds
abbrev pub user_bytes : List ℕ → List ℕ
user_bytes s = kind_bytes s (user_rows_at s) (user_rows_of s)

abbrev pub permission_bytes : List ℕ → List ℕ
permission_bytes s = kind_bytes s (permission_rows_at s) (permission_rows_of s)
