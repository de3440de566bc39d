-- The lines of the listing, in bytes of ASCII: numbers in decimal, sets in 16 hexadecimal digits, single spaces, a line feed at the end.
use Rattle.std.specs.Prelude.{ℕ, zero, suc, ◌+◌, ◌/◌, ◌%◌, List, [], ◌∷◌, ◌++◌, ltb}
use Prim.Native.Char.{code}
use Prim.Native.String.{String, [] as no_text, ◌∷◌ as ◌before◌}
use Rattle.ground.specs.Believed.Choice.{pick}

-- the codes of a text's characters
unfoldable pub ascii : String → List ℕ
ascii no_text = []
ascii (c before s) = code c ∷ ascii s

-- a digit below sixteen: 0 to 9, then a to f
unfoldable pub digit : ℕ → ℕ
digit d = pick (ltb d 10) (48 + d) (87 + d)

-- the last k digits of n in base b, the highest first
unfoldable pub digits : ℕ → ℕ → ℕ → List ℕ
digits b zero n = []
digits b (suc k) n = digits b k (n / b) ++ (digit (n % b) ∷ [])

-- how many digits n has in decimal: one below ten, else one more than its tenth has; n steps are enough for n
unfoldable pub places_in : ℕ → ℕ → ℕ
places_in zero n = 1
places_in (suc steps) n = pick (ltb n 10) 1 (suc (places_in steps (n / 10)))

unfoldable pub places : ℕ → ℕ
places n = places_in n n

unfoldable pub decimal : ℕ → List ℕ
decimal n = digits 10 (places n) n

unfoldable pub hex16 : ℕ → List ℕ
hex16 n = digits 16 16 n

unfoldable pub table_line : ℕ → ℕ → ℕ → List ℕ
table_line c d n = ascii "table " ++ decimal c ++ ascii " " ++ decimal d ++ ascii " " ++ decimal n ++ ascii "\n"

unfoldable pub role_line : ℕ → ℕ → ℕ → ℕ → List ℕ
role_line number source users permissions =
    ascii "role " ++ decimal number ++ ascii " " ++ decimal source ++ ascii " " ++ hex16 users ++ ascii " " ++ hex16 permissions ++ ascii "\n"

unfoldable pub row_line : ℕ → ℕ → ℕ → ℕ → ℕ → List ℕ
row_line derived begin end offset length =
    ascii "row " ++ decimal derived ++ ascii " " ++ decimal begin ++ ascii " " ++ decimal end ++ ascii " " ++ decimal offset
    ++ ascii " " ++ decimal length ++ ascii "\n"

unfoldable pub refused_line : ℕ → List ℕ
refused_line n = ascii "refused " ++ decimal n ++ ascii "\n"
