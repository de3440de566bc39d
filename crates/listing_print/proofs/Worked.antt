-- The listing of the small rota S: the text that document 01 prints, with the rows that touch joined (document 02, item 4).
-- Assumes nothing.
use Prim.Native.Nat.{ℕ}
use mathlib.Core.Path.{◌≡◌, refl, ap, ap₂, ◌∙◌}
use mathlib.Core.List.{List, ◌++◌}
use lib.ListN.{length}
use borrow.Author.Tests.{eq-eqb}
use Rattle.ground.specs.Believed.Judgement.{refuse, ◌or_else◌}
use Rattle.ground.specs.Believed.Sequence.{joined}
use Rattle.ground.proofs.BoolLaws.{pick_true}
use Rattle.endian.specs.Believed.Numbers.{u16_at}
use Rattle.rota.specs.Believed.RotaBytes.{rota_of}
use Rattle.rota.specs.Worked.{small}
use Rattle.rota.proofs.Worked.{small-accepted}
use Rattle.table.specs.Believed.Table.{Entry, Row}
use Rattle.rewrite_rules.specs.Believed.Rewriting.{unjoined, rewrite, rewrite_judged}
use Rattle.claims.proofs.Worked.{small-entries, small-rows, small_size}
use Rattle.listing_lines.specs.Believed.Lines.{ascii, digit, digits, places_in, places, decimal, hex16, table_line, role_line, row_line}
use Rattle.listing_table.specs.Believed.TableText.{role_text, row_text, roles_text, table_text}
use Rattle.listing_print.specs.Believed.Listing.{listing_judged, listing_of}

cycle-of-S : (rewrite (rota_of small)).cycle ≡ 10
unfolding rewrite unjoined rota_of u16_at
cycle-of-S = refl

judged-S : listing_judged small ≡ 0
unfolding listing_judged rewrite_judged ◌or_else◌ refuse
judged-S = rw (small-accepted.1, small_size)

abbrev lines_of : ℕ → List Entry → List Row → List ℕ
lines_of c es rs = table_line c (length es) (length rs) ++ roles_text 0 es ++ joined row_text rs

pub listing-of-S : listing_of small
    ≡ ascii "table 10 3 8\n"
    ++ ascii "role 0 0 0000000000000001 0000000000000001\n"
    ++ ascii "role 1 0 0000000000000003 0000000000000001\n"
    ++ ascii "role 2 0 0000000000000002 0000000000000001\n"
    ++ ascii "row 0 0 10 0 4\n"
    ++ ascii "row 0 0 10 6 2\n"
    ++ ascii "row 0 10 20 0 2\n"
    ++ ascii "row 1 10 20 2 2\n"
    ++ ascii "row 2 10 20 4 2\n"
    ++ ascii "row 1 10 20 6 1\n"
    ++ ascii "row 0 10 20 7 1\n"
    ++ ascii "row 2 20 40 2 5\n"
unfolding listing_of table_text ascii digit digits places_in places decimal hex16 table_line role_line row_line role_text row_text roles_text joined
listing-of-S =
    let τ = rewrite (rota_of small) in
    pick_true _ _ _ (eq-eqb (listing_judged small) 0 judged-S) ∙ ap (λ (c : ℕ). lines_of c τ.entries τ.rows) cycle-of-S
    ∙ ap₂ (lines_of 10) small-entries small-rows
