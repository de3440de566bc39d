-- The loop that counts: what is counted so far, and what the roles from r on have, make the whole.
--     role-rows-are, have-marks    the rows that a role's marks say are those of the rules, and every kind has a mark
--     rows-counted                 what was counted of one role's rows
--     Before, before-..            the loop
--     Counting, counting-..        the loop with its scratch
-- Assumes nothing.
use Prim.Native.Nat.{ℕ, suc, ◌+◌, ◌-◌, ◌*◌, ◌≤◌, ◌<◌}
use mathlib.Core.Path.{◌≡◌, sym, ◌∙◌, ap, ap₂, subst}
use mathlib.Core.Bool.{Bool, true}
use mathlib.Core.List.{List, [], map}
use native.Mathlib.Omega.{arith}
use lib.ListN.{length, set, take, drop, length-append, length-map, length-set}
use lib.Seq.{take_all}
use Rattle.ground.specs.Believed.Choice.{pick}
use Rattle.ground.specs.Believed.Sequence.{All}
use Rattle.rota.specs.Believed.RotaBytes.{rota_of}
use Rattle.rewrite_rules.specs.Believed.Cuts.{gaps}
use Rattle.rewrite_rules.specs.Believed.Joined.{join_rows}
use Rattle.rewrite_rules.specs.Kinds.{by_kind, masks_from}
use Rattle.rewrite_rules.specs.Believed.Rewriting.{fields_of, fields, size_of}
use Rattle.rewrite_rules.specs.Roles.{rows_marked, entries_at, joined_at, entries_from, joined_from, rewrite_roles}
use Rattle.rewrite_rules.proofs.KindLaws.{kinds-most}
use Rattle.rewrite_rules.proofs.RoleByRole.{entries_next, rows_next, entries_none, rows_none}
use Rattle.rewrite_derive.specs.Derive.{Room}
use Rattle.rewrite_derive.proofs.DeriveLaws.{masks-length}
use Rattle.rewrite_grid.specs.Grid.{Parted}
use Rattle.rewrite_grid.specs.Stretches.{field_kinds, stretch_count}
use Rattle.rewrite_grid.proofs.LaidLaws.{fields-few}
use Rattle.rewrite_grid.proofs.StretchLaws.{fields-least, stretch-each}
use Rattle.rewrite_masks.specs.Kinds.{masks_of, Numbered}
use Rattle.rewrite_role.specs.Parts.{RoleDerived, RoleDerivedTo}
use Rattle.rewrite_rows.specs.Parts.{field_marks, HaveMarks, role_rows, runs_to, CountedRows}
use Rattle.rewrite_rows.proofs.CountLaws.{stretches-rows}
use Rattle.rewrite_count.specs.Parts.{length_with, CountedTo, KeepRoom}
use Rattle.rewrite_count.specs.declared.fields.Fields.{Fields}
use Rattle.rewrite_count.proofs.RowLaws.{rows-least}
use Rattle.rewrite_count.proofs.KeptLaws.{PartRoom, room_at, found-few, Keeping, keeping_none, keeping-next}

module _ {s : List ℕ} {ne nc n : ℕ} {kinds lens ends sets : List ℕ} (q : Numbered s ne nc n kinds lens ends sets) where
  -- the kind of every stretch has a mark
  pub have-marks : (marks : List ℕ) → n ≤ length sets → n < length marks → HaveMarks (stretch_count ends ne) kinds marks
  have-marks marks ls lm =
      let e : length (masks_from [] (masks_of s)) ≡ n = ap length (sym q.sets-are) ∙ masks-length sets n ls in
      record {
        long = q.stretched.long-kinds;
        below =
            λ j h.
            omega (
              arith,
              stretch-each kinds lens (λ (k : ℕ). k ≤ length (masks_from [] (masks_of s))) (stretch_count ends ne)
                  (subst (All (λ (k : ℕ). k ≤ length (masks_from [] (masks_of s)))) (sym q.kinds-are) (kinds-most [] (masks_of s))) q.stretched.some j h,
            );
      }

  -- there are no more stretches than fields
  stretches-few : stretch_count ends ne ≤ ne * nc
  stretches-few = omega (arith, fields-least kinds lens (stretch_count ends ne) q.stretched.some, q.stretched.whole ne (omega arith))

-- a limit that no role passes
pub whole-role : {s pairs marks : List ℕ} {r n d : ℕ} → n ≤ 33345 → RoleDerivedTo 33345 s r n pairs marks d → RoleDerived s r n pairs marks d
whole-role few q = q.whole (omega (arith, q.few))

-- the rows that the marks of a role say are the role's
pub role-rows-are : {s eras cells kinds lens ends sets : List ℕ} {ne nc n : ℕ} → Parted s eras ne cells nc → Numbered s ne nc n kinds lens ends sets
    → {r : ℕ} {pairs marks : List ℕ} {d : ℕ} → RoleDerived s r n pairs marks d
    → (base : ℕ) → role_rows base eras ne cells nc (field_marks marks (field_kinds kinds lens (stretch_count ends ne))) ≡ joined_at (rota_of s) r base
unfolding role_rows field_marks joined_at fields
role-rows-are {s} {eras} {cells} {kinds} {lens} {ends} {ne = ne} {nc} g q {marks = marks} t base =
    let ks = field_kinds kinds lens (stretch_count ends ne) in
    let long : length (map (by_kind marks) ks) ≡ ne * nc = length-map ks (by_kind marks) ∙ q.stretched.whole ne (omega arith) in
    ap join_rows
    (ap₂ (λ (x y : List ℕ). rows_marked base (fields_of (gaps x) (gaps y)) (take (ne * nc) (map (by_kind marks) ks))) g.era-cuts.are g.cell_cuts.are
    ∙ ap (rows_marked base (fields (rota_of s))) (take_all (ne * nc) (map (by_kind marks) ks) (omega arith) ∙ ap (map (by_kind marks)) q.kinds-are)
    ∙ t.rows_are base)

-- what was counted of a role's rows: no more than it has, and all where they are not over the limit
pub record RowsTo (limit : ℕ) (s : List ℕ) (r rows : ℕ) : Type 0 where
  pub few : rows ≤ 33345
  pub least : (base : ℕ) → rows ≤ length (joined_at (rota_of s) r base)
  pub whole : rows ≤ limit → (base : ℕ) → rows ≡ length (joined_at (rota_of s) r base)

module _ {s eras cells kinds lens ends sets : List ℕ} {ne nc n : ℕ} (g : Parted s eras ne cells nc) (q : Numbered s ne nc n kinds lens ends sets) where
  pub rows-counted : {r : ℕ} {pairs marks : List ℕ} {d : ℕ} → RoleDerived s r n pairs marks d
      → (limit rows : ℕ) → CountedRows limit (runs_to ends (field_marks marks kinds) ne) (stretch_count ends ne) rows → RowsTo limit s r rows
  rows-counted {r} {marks = marks} t limit rows c =
      record {
        few = omega (arith, c.most, stretches-few q, fields-few g);
        least = λ base. omega (arith, c.least, all base);
        whole = λ h base. c.whole h ∙ sym (all base);
      }
    where
      all : (base : ℕ) → length (joined_at (rota_of s) r base) ≡ runs_to ends (field_marks marks kinds) ne
      all base = ap length (sym (role-rows-are g q t base)) ∙ stretches-rows q.stretched marks base eras cells g.era-cuts g.cell_cuts

-- the same, by what the code ensures
pub rows-within : (f : Fields) {r m limit k rows : ℕ} {pairs marks : List ℕ} → RoleDerivedTo limit f.roles.now.bytes.now r f.mask_count pairs marks m → m ≤ limit
    → CountedRows k (runs_to f.ends.now (field_marks marks f.kinds.now) f.roles.now.division.now.era_count) (stretch_count f.ends.now f.roles.now.division.now.era_count) rows
    → RowsTo k f.roles.now.bytes.now r rows
rows-within f {k = k} {rows} q h c = rows-counted f.roles.now.divided f.numbered (q.whole h) k rows c

-- of the roles from `first` to `end`, d derived roles and so many rows before role r
pub record Before (s : List ℕ) (first end d rows r : ℕ) : Type 0 where
  pub within : r ≤ end
  pub few-roles : end ≤ 32
  pub few : d ≤ 33345 * r
  pub few-rows : rows ≤ 33345 * r
  pub entries : d + length (entries_from (rota_of s) (end - r) r) ≡ length (rewrite_roles (rota_of s) first end).entries
  pub rows_left : rows + length (joined_from (rota_of s) (end - r) r d) ≡ length (rewrite_roles (rota_of s) first end).rows

module _ (s : List ℕ) (first end : ℕ) where
  pub before-none : first ≤ end → end ≤ 32 → Before s first end 0 0 first
  unfolding rewrite_roles
  before-none h m = record { within = h; few-roles = m; few = omega arith; few-rows = omega arith; entries = omega arith; rows_left = omega arith }

  module _ (d rows r : ℕ) (b : Before s first end d rows r) where
    -- role r first, then the roles after it
    entries-split : r < end → length (entries_from (rota_of s) (end - r) r)
        ≡ length (entries_at (rota_of s) r) + length (entries_from (rota_of s) (end - (r + 1)) (r + 1))
    entries-split h = ap length (entries_next (rota_of s) end r h) ∙ length-append (entries_at (rota_of s) r) _

    rows_split : r < end → length (joined_from (rota_of s) (end - r) r d)
        ≡ length (joined_at (rota_of s) r d) + length (joined_from (rota_of s) (end - (r + 1)) (r + 1) (d + length (entries_at (rota_of s) r)))
    rows_split h = ap length (rows_next (rota_of s) end r d h) ∙ length-append (joined_at (rota_of s) r d) _

    pub before-next : (n : ℕ) {pairs marks : List ℕ} (m k limit : ℕ) → r < end → n ≤ 33345 → RoleDerived s r n pairs marks m → RowsTo limit s r k → k ≤ limit
        → Before s first end (d + m) (rows + k) (r + 1)
    before-next n m k limit h few q t l =
        let f = rw (← q.entry-count) at (rows_split h) in
        record {
          within = omega arith;
          few-roles = b.few-roles;
          few = omega (arith, b.few, q.few);
          few-rows = omega (arith, b.few-rows, t.few);
          entries = omega (arith, b.entries, entries-split h, q.entry-count);
          rows_left = omega (arith, b.rows_left, f, t.whole l d);
        }

    -- within a role there are too many derived roles already, each with a row at least
    pub entries-stop : (n limit : ℕ) {pairs marks : List ℕ} (m : ℕ) → r < end → n ≤ 33345 → RoleDerivedTo limit s r n pairs marks m
        → (room : ℕ) → room < length_with (d + m) (rows + m) → CountedTo (rewrite_roles (rota_of s) first end) room (record { entries = d + m; rows = rows + m })
    unfolding size_of
    entries-stop n limit m h few q room over =
        record {
          few = omega (arith, b.few-roles, b.few, q.few);
          few-rows = omega (arith, b.few-roles, b.few-rows, q.few);
          exact = λ l. absurd (omega arith);
          over = λ l. omega (arith, b.entries, b.rows_left, entries-split h, rows_split h, q.least, rows-least (rota_of s) r d);
        }

    -- or too many rows
    pub counted_stop : (n : ℕ) {pairs marks : List ℕ} (m k limit : ℕ) → r < end → n ≤ 33345 → RoleDerived s r n pairs marks m → RowsTo limit s r k
        → (room : ℕ) → room < length_with (d + m) (rows + k)
        → CountedTo (rewrite_roles (rota_of s) first end) room (record { entries = d + m; rows = rows + k })
    unfolding size_of
    counted_stop n m k limit h few q t room over =
        record {
          few = omega (arith, b.few-roles, b.few, q.few);
          few-rows = omega (arith, b.few-roles, b.few-rows, t.few);
          exact = λ l. absurd (omega arith);
          over = λ l. omega (arith, b.entries, b.rows_left, entries-split h, rows_split h, q.entry-count, t.least d);
        }

    size-least : length_with d rows ≤ size_of (rewrite_roles (rota_of s) first end)
    unfolding size_of
    size-least = omega (arith, b.entries, b.rows_left)

    -- and the table's own where no role is left
    whole : r ≡ end → (d ≡ length (rewrite_roles (rota_of s) first end).entries) × (rows ≡ length (rewrite_roles (rota_of s) first end).rows)
    whole e = (
      omega (arith, b.entries, ap length (entries_none (rota_of s) end r (omega arith))),
      omega (arith, b.rows_left, ap length (rows_none (rota_of s) end r d (omega arith))),
    )

    pub counted-all : (room : ℕ) → r ≡ end → CountedTo (rewrite_roles (rota_of s) first end) room (record { entries = d; rows = rows })
    counted-all room e =
        record {
          few = omega (arith, b.few-roles, b.few, b.within);
          few-rows = omega (arith, b.few-roles, b.few-rows, b.within);
          exact = λ l. whole e;
          over = λ l. omega (arith, size-least);
        }

-- ---- the loop with its scratch

-- where the roles are kept, those before role r are
pub record Counting (keep : Bool) (s : List ℕ) (first end n : ℕ) (found pairs marks : List ℕ) (d rows r : ℕ) : Type 0 where
  pub counts : Before s first end d rows r
  pub past : first ≤ r
  pub long : keep ≡ true → end ≤ first + length found
  pub keeping : keep ≡ true → Keeping s first (r - first) n d found pairs marks

pub counting-none : (keep : Bool) (s : List ℕ) (first end n : ℕ) (found pairs marks : List ℕ) → first ≤ end → end ≤ 32
    → (keep ≡ true → end ≤ first + length found) → Counting keep s first end n found pairs marks 0 0 first
counting-none keep s first end n found pairs marks h m l =
    record {
      counts = before-none s first end h m;
      past = omega arith;
      long = l;
      keeping = λ e. rw (let z : first - first ≡ 0 = omega arith in z) (keeping_none found pairs marks);
    }

module _ {keep : Bool} {s : List ℕ} {first end n : ℕ} {found pairs marks : List ℕ} {d rows r : ℕ}
    (c : Counting keep s first end n found pairs marks d rows r) (h : r < end) {at from : ℕ}
    (ea : at ≡ pick keep (2 * d) 0) (ef : from ≡ pick keep ((r - first) * (n + 1)) 0) where
  -- there is room for role r
  pub counting-room : {w : ℕ} {sets links : List ℕ} → Room n w sets pairs marks links → (keep ≡ true → KeepRoom (end - first) n pairs marks)
      → PartRoom n w at from sets pairs marks links
  counting-room q k =
      room_at {roles = end - first} keep q (omega (arith, c.past)) k
      (λ e. omega (arith, found-few _ (c.keeping e).kept, (c.keeping e).count)) ea ef

  -- role r is derived, and its rows are counted
  pub counting-next : {pairs' marks' : List ℕ} (m k limit : ℕ) → length (masks_from [] (masks_of s)) ≤ n → n ≤ 33345
      → take at pairs' ≡ take at pairs → take from marks' ≡ take from marks
      → RoleDerived s r n (drop at pairs') (drop from marks') m → RowsTo limit s r k → k ≤ limit
      → Counting keep s first end n (set found (r - first) m) pairs' marks' (d + m) (rows + k) (r + 1)
  counting-next {pairs'} {marks'} m k limit most few ep em q t l =
      record {
        counts = before-next s first end d rows r c.counts n m k limit h few q t l;
        past = omega (arith, c.past);
        long = λ e. omega (arith, length-set found (r - first) m, c.long e);
        keeping = λ e. go e (ea ∙ ap (λ (b : Bool). pick b (2 * d) 0) e) (ef ∙ ap (λ (b : Bool). pick b ((r - first) * (n + 1)) 0) e) (c.keeping e);
      }
    where
      go : keep ≡ true → at ≡ 2 * d → from ≡ (r - first) * (n + 1) → Keeping s first (r - first) n d found pairs marks
          → Keeping s first (r + 1 - first) n (d + m) (set found (r - first) m) pairs' marks'
      go e za zf g =
          let i : r + 1 - first ≡ suc (r - first) = omega (arith, c.past) in
          rw (i) (keeping-next (omega (arith, c.past)) most (omega (arith, c.past, c.long e)) g (rw (za) at ep) (rw (zf) at em) (rw (za, zf) at q))
