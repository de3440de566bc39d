-- The entries of a rewritten table, and its rows before those that touch are joined: each in its range, in order, and how many there are.
--     with_rows                                     the table, with any rows
--     entries-well, entries-ascend, entries-few    sources and sets in range, sources ascend, no more entries than rows
--     rows-well, rows-follow, rows_few             windows and derived roles in range, each row follows those before, at most 1,067,040
-- Assumes nothing.
use Rattle.ground.proofs.ListLaws.{all_map, all-with, all_both, Pairwise, pairwise-with, pairwise_map}
use Prim.Native.Nat.{ℕ, zero, suc, ◌≤◌}
use mathlib.Core.Path.{◌≡◌, sym, ap, subst, subst₂}
use mathlib.Core.Bool.{true}
use mathlib.Core.List.{List, [], ◌∷◌, ◌++◌}
use native.Mathlib.Omega.{arith}
use lib.ListN.{length, length-map}
use Rattle.ground.specs.Believed.Sequence.{All}
use Rattle.rota.specs.Believed.Rota.{Rota}
use Rattle.rota.specs.RotaWell.{RotaWell}
use Rattle.table.specs.Believed.Table.{Entry, Row, Table, no_entry, entry_at}
use Rattle.table.specs.TableWell.{EntryWell, Ascending, RowWell, Follows}
use Rattle.rewrite_rules.specs.Believed.Distinct.{place_of}
use Rattle.rewrite_rules.specs.Believed.Rewriting.{fields, Kept, kept_of, kept, same, entries_of, row_of, unjoined}
use Rattle.rewrite_rules.proofs.TableDistinct.{there, place-below, place_is}
use Rattle.rewrite_rules.proofs.TableFields.{FieldWell, fields-well}
use Rattle.rewrite_rules.proofs.TableKept.{same-is, entries-there, entries-all, entries-length, kept_of-fields, kept_of-entries, kept_from-all, After, kept-ordered, kept-few}
use Rattle.rewrite_rules.specs.Roles.{entries_at, entries_from}
use Rattle.rewrite_rules.proofs.RoleByRole.{entries_at-derived, entries-by-role}

-- sources that ascend, role by role
ascending-from : (a b : ℕ) (es : List Entry) → a ≤ b → Ascending b es → Ascending a es
ascending-from a b [] h s = tt
ascending-from a b (e ∷ es) h s = (omega (arith, s.0), s.1)

ascending-append : (a r : ℕ) (es fs : List Entry) → a ≤ r → All (λ (e : Entry). e.source ≡ r) es → Ascending r fs → Ascending a (es ++ fs)
ascending-append a r [] fs h p s = ascending-from a r fs h s
ascending-append a r (e ∷ es) fs h p s = (omega (arith, p.0), ascending-append e.source r es fs (omega (arith, p.0)) p.1 s)

from-ascending : (ρ : Rota) (n r : ℕ) → Ascending r (entries_from ρ n r)
unfolding entries_from
from-ascending ρ zero r = tt
from-ascending ρ (suc n) r =
    ascending-append r r (entries_at ρ r) (entries_from ρ n (suc r)) (omega arith)
    (all-with (λ e d. d.source) (entries_at ρ r) (entries_at-derived ρ r))
    (ascending-from r (suc r) (entries_from ρ n (suc r)) (omega arith) (from-ascending ρ n (suc r)))

-- a rota's derived roles with any rows: with those of `unjoined`, and with those of `rewrite`
abbrev pub with_rows : Rota → List Row → Table
with_rows ρ ws =
    record {
      cycle = ρ.cycle;
      users = ρ.users;
      permissions = ρ.permissions;
      roles = length ρ.roles;
      entries = entries_of (kept ρ);
      rows = ws;
    }

module _ (ρ : Rota) where
  pub entries-few : length (entries_of (kept ρ)) ≤ length (unjoined ρ).rows
  unfolding unjoined
  entries-few = omega (arith, entries-length (kept ρ), length-map (kept ρ) (row_of (entries_of (kept ρ))))

  pub entries-ascend : Ascending 0 (entries_of (kept ρ))
  unfolding unjoined
  entries-ascend = subst (Ascending 0) (sym (entries-by-role ρ)) (from-ascending ρ (length ρ.roles) 0)

  -- the sources are roles, the sets are not empty and in range
  pub entries-well : (ws : List Row) → All (EntryWell (with_rows ρ ws)) (entries_of (kept ρ))
  unfolding kept
  entries-well ws =
      entries-all (EntryWell (with_rows ρ ws)) (kept ρ)
      (kept_from-all ρ (λ (k : Kept). EntryWell (with_rows ρ ws) k.entry) (length ρ.roles) 0
      (λ q a b. all-with
      (λ k d. record {
        source = omega (arith, d.source);
        some-user = d.some-user;
        some-permission = d.some-permission;
        users-below = d.users-below;
        permissions-below = d.permissions-below;
      })
      (kept_of ρ q (fields ρ)) (kept_of-entries ρ q (fields ρ))))

  -- the row of what is kept names its derived role
  row-source : (ws : List Row) (k : Kept) → there same k.entry (entries_of (kept ρ)) ≡ true
      → (entry_at (with_rows ρ ws) (place_of same k.entry (entries_of (kept ρ)))).source ≡ k.entry.source
  row-source ws k h = ap (λ (e : Entry). e.source) (place_is same same-is k.entry (entries_of (kept ρ)) no_entry h)

module _ (ρ : Rota) (w : RotaWell ρ) where
  pub rows_few : length (unjoined ρ).rows ≤ 1067040
  unfolding unjoined
  rows_few = omega (arith, kept-few ρ w, length-map (kept ρ) (row_of (entries_of (kept ρ))))

  kept-fields : All (λ (k : Kept). FieldWell ρ.cycle k.field) (kept ρ)
  unfolding kept
  kept-fields =
      kept_from-all ρ (λ (k : Kept). FieldWell ρ.cycle k.field) (length ρ.roles) 0
      (λ q a b. kept_of-fields ρ (FieldWell ρ.cycle) q (fields ρ) (fields-well ρ w))

  pub rows-well : (ws : List Row) → All (RowWell (with_rows ρ ws)) (unjoined ρ).rows
  unfolding unjoined
  rows-well ws =
      all_map (RowWell (with_rows ρ ws)) (row_of (entries_of (kept ρ))) (kept ρ)
      (all_both
      (λ k h f. record {
        derived = place-below same k.entry (entries_of (kept ρ)) h;
        ordered = f.ordered;
        ends = f.ends;
        some-length = f.some-length;
        in-cycle = f.in-cycle;
      })
      (kept ρ) (entries-there (kept ρ)) kept-fields)

  pub rows-follow : (ws : List Row) → Pairwise (Follows (with_rows ρ ws)) (unjoined ρ).rows
  unfolding unjoined
  rows-follow ws =
      pairwise_map (Follows (with_rows ρ ws)) (row_of (entries_of (kept ρ))) (kept ρ)
      (pairwise-with
      (λ j k p q h. subst₂ (λ (a b : ℕ). After a b j.field k.field) (sym (row-source ρ ws j p)) (sym (row-source ρ ws k q)) h)
      (kept ρ) (entries-there (kept ρ)) (kept-ordered ρ w))
