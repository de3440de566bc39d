-- The text of a table (document 01, "Calendar and listing").
use Rattle.std.specs.Prelude.{ℕ, suc, List, [], ◌∷◌, ◌++◌, length}
use Rattle.ground.specs.Believed.Sequence.{joined}
use Rattle.table.specs.Believed.Table.{Entry, Row, Table}
use Rattle.listing_lines.specs.Believed.Lines.{table_line, role_line, row_line}

-- the line of a derived role and that of a row
unfoldable pub role_text : ℕ → Entry → List ℕ
role_text d e = role_line d e.source e.users e.permissions

unfoldable pub row_text : Row → List ℕ
row_text w = row_line w.derived w.window.begin w.window.end w.window.offset w.window.length

-- a line for each derived role, numbered from d on
unfoldable pub roles_text : ℕ → List Entry → List ℕ
roles_text d [] = []
roles_text d (e ∷ es) = role_text d e ++ roles_text (suc d) es

-- the table's line, the derived roles from 0 on, and the rows
unfoldable pub table_text : Table → List ℕ
table_text τ = table_line τ.cycle (length τ.entries) (length τ.rows) ++ roles_text 0 τ.entries ++ joined row_text τ.rows
