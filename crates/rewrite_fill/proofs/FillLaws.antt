-- The loop that writes: what the roles from r on have, written from where the loop stands, is the whole table's.
-- Assumes nothing.
use Prim.Native.Nat.{ℕ, suc, ◌+◌, ◌-◌, ◌*◌, ◌≤◌, ◌<◌}
use mathlib.Core.Path.{◌≡◌, refl, sym, ◌∙◌, ap, ap₂}
use mathlib.Core.Bool.{Bool, true}
use mathlib.Core.List.{List, ◌++◌}
use native.Mathlib.Omega.{arith}
use lib.ListN.{length, get_or, take, drop, length-append}
use lib.Seq.{sets, length-sets}
use Rattle.ground.specs.Believed.Choice.{pick}
use Rattle.ground.specs.Believed.Sequence.{joined}
use Rattle.ground.proofs.SequenceLaws.{joined-append}
use Rattle.endian.proofs.WrittenLaws.{sets-comm, sets-append}
use Rattle.endian.proofs.StandsLaws.{joined_length}
use Rattle.rota.specs.Believed.RotaBytes.{rota_of}
use Rattle.table.specs.Believed.Table.{Entry, Row, Table}
use Rattle.table.specs.Believed.TableBytes.{entry_bytes, row_bytes}
use Rattle.rewrite_rules.specs.Believed.Rewriting.{size_of}
use Rattle.rewrite_rules.specs.Roles.{entries_at, joined_at, entries_from, joined_from, rewrite_roles}
use Rattle.rewrite_rules.proofs.RoleByRole.{entries_next, rows_next, entries_none, rows_none}
use Rattle.rewrite_derive.specs.Derive.{Room}
use Rattle.rewrite_index.specs.Entries.{entries_to}
use Rattle.rewrite_grid.specs.Grid.{Cuts}
use Rattle.rewrite_role.specs.Parts.{RoleDerived}
use Rattle.rewrite_rows.proofs.WriteLaws.{entry-long, row-long}
use Rattle.std.specs.Prelude.{is_some}
use Rattle.rewrite_count.specs.Parts.{KeepRoom, RoomFor, SameRoom, found_to, Kept}
use Rattle.rewrite_count.specs.declared.fields.Fields.{Fields}
use Rattle.rewrite_count.specs.declared.scratch.Scratch.{Scratch}
use Rattle.rewrite_count.proofs.ScratchLaws.{room-stays}
use Rattle.rewrite_count.proofs.KeptLaws.{PartRoom, room_at, kept_less, found-few, found-more}

-- cuts with another bound
pub cuts-to : {l a : List ℕ} {n top : ℕ} (top' : ℕ) → top ≤ top' → Cuts l a n top → Cuts (take (n + 1) a) a n top'
cuts-to top' h w = record { are = refl; long = w.long; rise = w.rise; most = λ k l. omega (arith, w.most k l) }

two_runs : (l : List ℕ) (a p b q : ℕ) (e e' r r' : List ℕ) → b ≡ a + length e → q ≡ p + length r → b + length e' ≤ p
    → sets (sets (sets (sets l a e) p r) b e') q r' ≡ sets (sets l a (e ++ e')) p (r ++ r')
two_runs l a p b q e e' r r' eb eq h =
    ap₂ (λ (x : List ℕ) (y : ℕ). sets x y r')
    (sets-comm (sets l a e) b p e' r h ∙ ap (λ (y : ℕ). sets (sets (sets l a e) y e') p r) eb ∙ ap (λ (x : List ℕ). sets x p r) (sets-append l a e e')) eq
    ∙ sets-append (sets l a (e ++ e')) p r r'

-- of the roles from `first` to `end`, d entries before role r are written, and the rows before it, up to p
pub record Filling (s : List ℕ) (first end total : ℕ) (out₀ out : List ℕ) (d p r : ℕ) : Type 0 where
  pub within : r ≤ end
  pub few-roles : end ≤ 32
  pub long : length out ≡ length out₀
  pub few : d ≤ 33345 * r
  pub entries-left : d + length (entries_from (rota_of s) (end - r) r) ≡ total
  pub rows_left : p + 16 * length (joined_from (rota_of s) (end - r) r d) ≡ 16 + 17 * total + 16 * length (rewrite_roles (rota_of s) first end).rows
  pub past : 16 + 17 * total ≤ p
  pub bytes :
      sets (sets out (16 + 17 * d) (joined entry_bytes (entries_from (rota_of s) (end - r) r))) p (joined row_bytes (joined_from (rota_of s) (end - r) r d))
      ≡ sets (sets out₀ 16 (joined entry_bytes (rewrite_roles (rota_of s) first end).entries)) (16 + 17 * total) (joined row_bytes (rewrite_roles (rota_of s) first end).rows)

module _ (s : List ℕ) (first end total : ℕ) where
  pub filling-start : (out : List ℕ) → first ≤ end → end ≤ 32 → total ≡ length (rewrite_roles (rota_of s) first end).entries
      → Filling s first end total out out 0 (16 + 17 * total) first
  unfolding rewrite_roles
  filling-start out h k e =
      record {
        within = h;
        few-roles = k;
        long = refl;
        few = omega arith;
        entries-left = omega arith;
        rows_left = omega arith;
        past = omega arith;
        bytes = refl;
      }

  module _ (out₀ out : List ℕ) (d p r : ℕ) (w : Filling s first end total out₀ out d p r) where
    module _ (n : ℕ) (pairs marks : List ℕ) (m : ℕ) (h : r < end) (few : n ≤ 33345) (q : RoleDerived s r n pairs marks m) where
      entries-long : length (entries_from (rota_of s) (end - r) r) ≡ m + length (entries_from (rota_of s) (end - (r + 1)) (r + 1))
      entries-long =
          ap length (entries_next (rota_of s) (end) r h) ∙ length-append (entries_at (rota_of s) r) (entries_from (rota_of s) (end - (r + 1)) (r + 1))
          ∙ ap (λ (x : ℕ). x + length (entries_from (rota_of s) (end - (r + 1)) (r + 1))) (sym q.entry-count)

      rows_long : length (joined_from (rota_of s) (end - r) r d) ≡ length (joined_at (rota_of s) r d) + length (joined_from (rota_of s) (end - (r + 1)) (r + 1) (d + m))
      rows_long =
          ap length (rows_next (rota_of s) (end) r d h)
          ∙ length-append (joined_at (rota_of s) r d) (joined_from (rota_of s) (end - (r + 1)) (r + 1) (d + length (entries_at (rota_of s) r)))
          ∙ ap (λ (y : ℕ). length (joined_at (rota_of s) r d) + length (joined_from (rota_of s) (end - (r + 1)) (r + 1) (d + y))) (sym q.entry-count)

      -- there is room for this role's entries and rows
      pub entries-room : 16 + 17 * total ≤ length out₀ → 16 + 17 * d + 17 * m ≤ length out
      entries-room l = omega (arith, w.entries-left, entries-long, w.long)

      pub rows-room : 16 + 17 * total + 16 * length (rewrite_roles (rota_of s) first end).rows ≤ length out₀ → p + 16 * length (joined_at (rota_of s) r d) ≤ length out
      rows-room l = omega (arith, w.rows_left, rows_long, w.long)

      pub filling-turn : (out₁ out₂ : List ℕ) (p' : ℕ) (rows : List Row) → rows ≡ joined_at (rota_of s) r d
          → out₁ ≡ sets out (16 + 17 * d) (joined entry_bytes (entries_to r (m) pairs))
          → out₂ ≡ sets out₁ p (joined row_bytes rows) → p' ≡ p + 16 * length rows
          → Filling s first end total out₀ out₂ (d + m) p' (r + 1)
      filling-turn out₁ out₂ p' rows er e₁ e₂ ep =
          let e = joined entry_bytes (entries_at (rota_of s) r) in
          let e' = joined entry_bytes (entries_from (rota_of s) (end - (r + 1)) (r + 1)) in
          let f = joined row_bytes (joined_at (rota_of s) r d) in
          let f' = joined row_bytes (joined_from (rota_of s) (end - (r + 1)) (r + 1) (d + m)) in
          let le : length e ≡ 17 * m = joined_length entry_bytes 17 entry-long (entries_at (rota_of s) r) ∙ ap (λ (x : ℕ). 17 * x) (sym q.entry-count) in
          let le' : length e' ≡ 17 * length (entries_from (rota_of s) (end - (r + 1)) (r + 1)) = joined_length entry_bytes 17 entry-long _ in
          let lf : length f ≡ 16 * length (joined_at (rota_of s) r d) = joined_length row_bytes 16 row-long (joined_at (rota_of s) r d) in
          let lp : p' ≡ p + 16 * length (joined_at (rota_of s) r d) = ep ∙ ap (λ (x : List Row). p + 16 * length x) er in
          let so : out₂ ≡ sets (sets out (16 + 17 * d) e) p f
          = e₂ ∙ ap₂ (λ (x : List ℕ) (y : List Row). sets x p (joined row_bytes y)) (e₁ ∙ ap (λ (x : List Entry). sets out (16 + 17 * d) (joined entry_bytes x)) q.entries-are) er in
          record {
            within = omega arith;
            few-roles = w.few-roles;
            long = ap length so ∙ length-sets (sets out (16 + 17 * d) e) p f ∙ length-sets out (16 + 17 * d) e ∙ w.long;
            few = omega (arith, w.few, q.few);
            entries-left = omega (arith, w.entries-left, entries-long);
            rows_left = omega (arith, w.rows_left, rows_long);
            past = omega (arith, w.past);
            bytes =
                ap (λ (x : List ℕ). sets (sets x (16 + 17 * (d + m)) e') p' f') so
                ∙ two_runs out (16 + 17 * d) p (16 + 17 * (d + m)) p' e e' f f' (omega arith) (omega arith) (omega (arith, w.entries-left, entries-long, w.past))
                ∙ ap₂ (λ (x y : List ℕ). sets (sets out (16 + 17 * d) x) p y)
                (sym (ap (joined entry_bytes) (entries_next (rota_of s) (end) r h)
                ∙ joined-append entry_bytes (entries_at (rota_of s) r) (entries_from (rota_of s) (end - (r + 1)) (r + 1))))
                (sym (ap (joined row_bytes) (rows_next (rota_of s) (end) r d h)
                ∙ joined-append row_bytes (joined_at (rota_of s) r d) (joined_from (rota_of s) (end - (r + 1)) (r + 1) (d + length (entries_at (rota_of s) r)))
                ∙ ap (λ (y : ℕ). f ++ joined row_bytes (joined_from (rota_of s) (end - (r + 1)) (r + 1) (d + y))) (sym q.entry-count)))
                ∙ w.bytes;
          }

    -- no role is left
    pub filling-end : r ≡ end
        → out ≡ sets (sets out₀ 16 (joined entry_bytes (rewrite_roles (rota_of s) first end).entries)) (16 + 17 * total) (joined row_bytes (rewrite_roles (rota_of s) first end).rows)
    unfolding joined
    filling-end e =
        ap₂ (λ (x : List Entry) (y : List Row). sets (sets out (16 + 17 * d) (joined entry_bytes x)) p (joined row_bytes y))
        (sym (entries_none (rota_of s) (end) r (omega arith))) (sym (rows_none (rota_of s) (end) r d (omega arith)))
        ∙ w.bytes

pub size_room : (τ : Table) (total n : ℕ) → total ≡ length τ.entries → size_of τ ≤ n → 16 + 17 * total + 16 * length τ.rows ≤ n
unfolding size_of
size_room τ total n e h = omega (arith, e)

-- ---- the loop with its scratch

-- where the roles were kept they still are, and those before role r have d derived roles
pub record Held (keep : Bool) (s : List ℕ) (first end n total : ℕ) (found out₀ out pairs marks : List ℕ) (d p r : ℕ) : Type 0 where
  pub filling : Filling s first end total out₀ out d p r
  pub past : first ≤ r
  pub kept : keep ≡ true → Kept s first (end - first) n found pairs marks
  pub count : keep ≡ true → d ≡ found_to found (r - first)

module _ {keep : Bool} {s : List ℕ} {first end n total : ℕ} {found out₀ out pairs marks : List ℕ} {d p r : ℕ}
    (c : Held keep s first end n total found out₀ out pairs marks d p r) (h : r < end) {at from : ℕ}
    (ea : at ≡ pick keep (2 * d) 0) (ef : from ≡ pick keep ((r - first) * (n + 1)) 0) where
  pub held-room : {w : ℕ} {sets links : List ℕ} → Room n w sets pairs marks links → (keep ≡ true → KeepRoom (end - first) n pairs marks)
      → PartRoom n w at from sets pairs marks links
  held-room q k =
      room_at {roles = end - first} keep q (omega (arith, c.past)) k
      (λ e. omega (arith, found-few (r - first) (kept_less (r - first) (omega (arith, c.past)) (c.kept e)), c.count e)) ea ef

  -- role r is there where it was kept
  pub held-role : keep ≡ true → RoleDerived s r n (drop at pairs) (drop from marks) (get_or found (r - first) 0)
  held-role e =
      let za : at ≡ 2 * found_to found (r - first) = ea ∙ ap (λ (b : Bool). pick b (2 * d) 0) e ∙ ap (λ (x : ℕ). 2 * x) (c.count e) in
      let zf : from ≡ (r - first) * (n + 1) = ef ∙ ap (λ (b : Bool). pick b ((r - first) * (n + 1)) 0) e in
      let zr : first + (r - first) ≡ r = omega (arith, c.past) in
      rw (za, zf) (rw (zr) at ((c.kept e).each (r - first) (omega (arith, c.past))))

-- there is room for role r in the scratch as it stands
pub role-room : {f : Fields} {s t : Scratch} {total : ℕ} {found out₀ out : List ℕ} {d p r at from : ℕ} → RoomFor f s → SameRoom s t
    → Held (is_some t.kept) f.roles.now.bytes.now f.roles.now.first f.roles.now.end f.mask_count total found out₀ out t.pairs.now t.marks.now d p r
    → r < f.roles.now.end → at ≡ pick (is_some t.kept) (2 * d) 0 → from ≡ pick (is_some t.kept) ((r - f.roles.now.first) * (f.mask_count + 1)) 0
    → PartRoom f.mask_count t.trees at from f.masks.now t.pairs.now t.marks.now t.links.now
role-room q e c h ea ef = let z = room-stays e q in held-room c h ea ef z.room z.for-kept

pub held_next : {keep : Bool} {s : List ℕ} {first end n total : ℕ} {found out₀ out pairs marks : List ℕ} {d p r : ℕ}
    → Held keep s first end n total found out₀ out pairs marks d p r → {out' pairs' marks' : List ℕ} {p' m : ℕ}
    → Filling s first end total out₀ out' (d + m) p' (r + 1) → (keep ≡ true → (m ≡ get_or found (r - first) 0) × (pairs' ≡ pairs) × (marks' ≡ marks))
    → Held keep s first end n total found out₀ out' pairs' marks' (d + m) p' (r + 1)
held_next {first = first} {found = found} {r = r} c f same =
    record {
      filling = f;
      past = omega (arith, c.past);
      kept = λ e. rw ((same e).1, (same e).2) (c.kept e);
      count =
          λ e.
          let i : r + 1 - first ≡ suc (r - first) = omega (arith, c.past) in
          rw (i) (omega (arith, c.count e, (same e).0, found-more found (r - first)));
    }

pub held_start : (keep : Bool) (s : List ℕ) (first end n total : ℕ) (found out pairs marks : List ℕ) → first ≤ end → end ≤ 32
    → total ≡ length (rewrite_roles (rota_of s) first end).entries → (keep ≡ true → Kept s first (end - first) n found pairs marks)
    → Held keep s first end n total found out out pairs marks 0 (16 + 17 * total) first
unfolding found_to
held_start keep s first end n total found out pairs marks h k e q =
    record {
      filling = filling-start s first end total out h k e;
      past = omega arith;
      kept = q;
      count = λ z. rw (let i : first - first ≡ 0 = omega arith in i) refl;
    }
