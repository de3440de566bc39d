-- Header, entries and rows are the table, put into the area where it fits.
-- Assumes nothing.
use Prim.Native.Nat.{ℕ, ◌+◌, ◌*◌, ◌≤◌, ◌<◌}
use mathlib.Core.Path.{◌≡◌, refl, sym, ◌∙◌, ap, ap₂}
use mathlib.Core.List.{List, ◌++◌}
use native.Mathlib.Omega.{arith}
use lib.ListN.{length, drop}
use lib.Seq.{sets, length-sets}
use lib.Dec.{leb}
use mathlib.Core.Bool.{Bool, true, false}
use borrow.Author.Tests.{lt-ltb, le-ltb, le-leb, lt-leb, leb-true, leb-false}
use Rattle.table.specs.declared.Counts.{Counts}
use Rattle.ground.specs.Believed.Sequence.{joined}
use Rattle.endian.specs.Believed.Numbers.{bytes16, bytes32}
use Rattle.endian.proofs.StandsLaws.{joined_length}
use Rattle.rota.specs.Believed.RotaBytes.{rota_of}
use Rattle.rota.specs.declared.Layout.{Layout}
use Rattle.rota.proofs.RotaWellLaws.{roles-count}
use Rattle.table.specs.Believed.Table.{Table}
use Rattle.table.specs.Believed.TableBytes.{header_bytes, entry_bytes, row_bytes, table_bytes}
use Rattle.rewrite_rules.specs.Believed.Rewriting.{size_of}
use Rattle.rewrite_rules.specs.Roles.{rewrite_roles}
use Rattle.rota.specs.Inside.{Located}
use Rattle.rewrite_place.specs.Parts.{HeaderFits, started, placed_area}
use Rattle.rewrite_count.specs.Parts.{length_with, CountedTo}
use Rattle.rewrite_count.specs.declared.Count.{Count}
use Rattle.rota.proofs.LocatedLaws.{fine, counted}
use Rattle.rewrite_rows.proofs.WriteLaws.{entry-long, row-long, three-runs}

-- the header of a table with d entries and n rows
abbrev pub counts_with : Layout → ℕ → ℕ → Counts
counts_with l d n =
    record { cycle = l.counts.cycle; users = l.counts.users; permissions = l.counts.permissions; roles = l.counts.roles; derived = d; rows = n }

-- the first store, or none
module _ (area : List ℕ) (n : Counts) (size : ℕ) where
  pub not-started : length area < size → (false ≡ leb size (length area)) × (area ≡ started area n size)
  unfolding started
  not-started h = let e = lt-leb size (length area) h in (sym e, rw e)

  pub is-started : (after : List ℕ) → size ≤ length area → after ≡ sets area 0 (header_bytes n.cycle n.users n.permissions n.roles n.derived n.rows)
      → (true ≡ leb size (length area)) × (after ≡ started area n size)
  unfolding started
  is-started after h q = let e = le-leb size (length area) h in (sym e, q ∙ rw e)

  pub started-yes : (b : Bool) (after : List ℕ) → b ≡ leb size (length area) → b ≡ true → after ≡ started area n size
      → (size ≤ length area) × (after ≡ sets area 0 (header_bytes n.cycle n.users n.permissions n.roles n.derived n.rows))
  unfolding started
  started-yes b after e t q = let y = sym e ∙ t in (leb-true size (length area) y, q ∙ rw y)

  pub started-no : (b : Bool) (after : List ℕ) → b ≡ leb size (length area) → b ≡ false → after ≡ started area n size → (length area < size) × (after ≡ area)
  unfolding started
  started-no b after e t q = let y = sym e ∙ t in (leb-false size (length area) y, q ∙ rw y)

-- counts that are not too many are the table's
pub size_fits : (τ : Table) (room : ℕ) (k : Count) → CountedTo τ room k → length_with k.entries k.rows ≤ room → size_of τ ≤ room
unfolding size_of
size_fits τ room k q h = let z = q.exact h in omega (arith, z.0, z.1)

header-long : (c u p r d n : ℕ) → length (header_bytes c u p r d n) ≡ 16
unfolding header_bytes bytes16 bytes32
header-long c u p r d n = refl

module _ (s : List ℕ) (l : Layout) (w : Located s l) where
  -- the header's fields fit
  pub header-fits : (d n : ℕ) → HeaderFits (counts_with l d n)
  header-fits d n =
      let h = (fine s l w).header in
      let q = counted s l w in
      record {
        cycle = omega (arith, q.cycle, h.cycle-most);
        users = omega (arith, q.users, h.users-most);
        permissions = omega (arith, q.permissions, h.permissions-most);
        roles = omega (arith, q.roles, h.roles-most);
      }

  module _ (first end : ℕ) (d n : ℕ) (ed : d ≡ length (rewrite_roles (rota_of s) first end).entries) (en : n ≡ length (rewrite_roles (rota_of s) first end).rows) where
    header_is : let τ = rewrite_roles (rota_of s) first end in header_bytes l.counts.cycle l.counts.users l.counts.permissions l.counts.roles d n
        ≡ header_bytes τ.cycle τ.users τ.permissions τ.roles (length τ.entries) (length τ.rows)
    unfolding rewrite_roles rota_of
    header_is =
        let q = counted s l w in
        rw (q.cycle, q.users, q.permissions, q.roles ∙ sym (roles-count s), ed, en)

    pub table-written : (out out₁ out₂ : List ℕ) → size_of (rewrite_roles (rota_of s) first end) ≤ length out
        → out₁ ≡ sets out 0 (header_bytes l.counts.cycle l.counts.users l.counts.permissions l.counts.roles d n)
        → out₂ ≡ sets (sets out₁ 16 (joined entry_bytes (rewrite_roles (rota_of s) first end).entries)) (16 + 17 * d) (joined row_bytes (rewrite_roles (rota_of s) first end).rows)
        → out₂ ≡ table_bytes (rewrite_roles (rota_of s) first end) ++ drop (size_of (rewrite_roles (rota_of s) first end)) out
    unfolding table_bytes size_of
    table-written out out₁ out₂ h e₁ e₂ =
        let τ = rewrite_roles (rota_of s) first end in
        let e = joined entry_bytes τ.entries in
        let r = joined row_bytes τ.rows in
        let le : length e ≡ 17 * length τ.entries = joined_length entry_bytes 17 entry-long τ.entries in
        let lr : length r ≡ 16 * length τ.rows = joined_length row_bytes 16 row-long τ.rows in
        e₂ ∙ ap (λ (x : List ℕ). sets (sets x 16 e) (16 + 17 * d) r) (e₁ ∙ ap (sets out 0) header_is)
        ∙ three-runs out (header_bytes τ.cycle τ.users τ.permissions τ.roles (length τ.entries) (length τ.rows)) e r (16 + 17 * d)
        (header-long τ.cycle τ.users τ.permissions τ.roles (length τ.entries) (length τ.rows)) (omega (arith, ed)) (omega arith)
        ∙ ap₂ (λ (x y : ℕ). table_bytes τ ++ drop (16 + x + y) out) le lr

  -- what becomes of an area once its header is written or not
  module _ (first end : ℕ) (area : List ℕ) (k : Count) (q : CountedTo (rewrite_roles (rota_of s) first end) (length area) k) (size : ℕ)
      (es : size ≡ length_with k.entries k.rows) (b : Bool) (after : List ℕ) (eb : b ≡ leb size (length area))
      (ea : after ≡ started area (counts_with l k.entries k.rows) size) where
    begun : b ≡ true → (length_with k.entries k.rows ≤ length area)
        × (after ≡ sets area 0 (header_bytes l.counts.cycle l.counts.users l.counts.permissions l.counts.roles k.entries k.rows))
    begun t = let g = started-yes area (counts_with l k.entries k.rows) size b after eb t ea in (omega (arith, g.0, es), g.1)

    pub has_room : b ≡ true → length_with k.entries k.rows ≤ length area
    has_room t = (begun t).0

    pub can_write : b ≡ true → (k.entries ≡ length (rewrite_roles (rota_of s) first end).entries) × (size_of (rewrite_roles (rota_of s) first end) ≤ length after)
    can_write t =
        let g = begun t in (
          (q.exact g.0).0,
          omega (
            arith,
            size_fits (rewrite_roles (rota_of s) first end) (length area) k q g.0,
            ap length g.1,
            length-sets area 0 (header_bytes l.counts.cycle l.counts.users l.counts.permissions l.counts.roles k.entries k.rows),
          ),
        )

    pub has-written : b ≡ true → (last : List ℕ)
        → last ≡ sets (sets after 16 (joined entry_bytes (rewrite_roles (rota_of s) first end).entries)) (16 + 17 * k.entries)
        (joined row_bytes (rewrite_roles (rota_of s) first end).rows)
        → last ≡ placed_area (rewrite_roles (rota_of s) first end) area
    unfolding placed_area
    has-written t last e =
        let g = begun t in
        let z = q.exact g.0 in
        let f = size_fits (rewrite_roles (rota_of s) first end) (length area) k q g.0 in
        table-written first end k.entries k.rows z.0 z.1 area after last f g.1 e
        ∙ rw (le-ltb (length area) (size_of (rewrite_roles (rota_of s) first end)) f)

    pub has-not : b ≡ false → after ≡ placed_area (rewrite_roles (rota_of s) first end) area
    unfolding placed_area
    has-not t =
        let g = started-no area (counts_with l k.entries k.rows) size b after eb t ea in
        g.1 ∙ rw (lt-ltb (length area) (size_of (rewrite_roles (rota_of s) first end)) (q.over (omega (arith, g.0, es))))
