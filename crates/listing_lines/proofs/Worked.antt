-- Lines of document 01's listing of the rota S, and numbers at the edges.
-- Assumes nothing.
use mathlib.Core.Path.{◌≡◌, refl}
use Rattle.listing_lines.specs.Believed.Lines.{ascii, digit, digits, places_in, places, decimal, hex16, table_line, role_line, row_line, refused_line}

pub table-of-S : table_line 10 3 12 ≡ ascii "table 10 3 12\n"
unfolding ascii digit digits places_in places decimal table_line
table-of-S = refl

pub role-of-S : role_line 2 0 2 1 ≡ ascii "role 2 0 0000000000000002 0000000000000001\n"
unfolding ascii digit digits places_in places decimal hex16 role_line
role-of-S = refl

pub row-of-S : row_line 2 20 40 6 1 ≡ ascii "row 2 20 40 6 1\n"
unfolding ascii digit digits places_in places decimal row_line
row-of-S = refl

pub too_long : refused_line 9 ≡ ascii "refused 9\n"
unfolding ascii digit digits places_in places decimal refused_line
too_long = refl

pub lower-case : hex16 0xfedcba9876543210 ≡ ascii "fedcba9876543210"
unfolding ascii digit digits hex16
lower-case = refl

pub no-padding : decimal 100 ≡ ascii "100"
unfolding ascii digit digits places_in places decimal
no-padding = refl
