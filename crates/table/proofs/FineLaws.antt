-- What is known of a table that is accepted: `TableFine s` says it of its bytes, and nothing else is asked for acceptance.
--     table-fine, table-clear    from acceptance, and back
-- Assumes nothing.
use Prim.Native.Nat.{ℕ, ◌+◌, ◌*◌, ◌^◌, ◌≤◌, ◌<◌}
use mathlib.Core.Path.{◌≡◌}
use mathlib.Core.Bool.{true, false}
use mathlib.Core.List.{List}
use native.Mathlib.Omega.{arith}
use borrow.Author.Tests.{ltb-false, leb-false, eqb-true, not-false, le-ltb, lt-leb, eq-eqb, ne_eqb}
use lib.ListN.{length}
use lib.Dec.{ltb}
use Rattle.ground.specs.Believed.Judgement.{refuse, ◌or_else◌}
use Rattle.ground.proofs.BoolLaws.{or_no}
use Rattle.ground.proofs.JudgementLaws.{or_else-zero, refuse-no, pos_of, turns-all, turns-clear}
use Rattle.endian.specs.Believed.Numbers.{u16_at}
use Rattle.minutes.specs.Believed.Minutes.{E}
use Rattle.table.specs.Believed.Table.{Row}
use Rattle.table.specs.Believed.TableBytes.{cycle_of, users_of, permissions_of, roles_of, derived_of, rows_of, entry_of, row_of}
use Rattle.table.specs.Believed.TableRefusals.{header_judged, source_before, entry_bad, entry_judged, row_bad, follows_before, row_judged, table_judged}

pub record HeaderFine (s : List ℕ) : Type 0 where
  pub format : u16_at s 0 ≡ 2
  pub cycle-some : 0 < cycle_of s
  pub cycle-most : cycle_of s ≤ 40320
  pub users-most : users_of s ≤ 64
  pub permissions-most : permissions_of s ≤ 64
  pub roles-most : roles_of s ≤ 32
  pub whole : length s ≡ 16 + 17 * derived_of s + 16 * rows_of s

pub record EntryFine (s : List ℕ) (d : ℕ) : Type 0 where
  pub source : (entry_of s d).source < roles_of s
  pub ascending : source_before s d ≤ (entry_of s d).source
  pub some-user : 0 < (entry_of s d).users
  pub some-permission : 0 < (entry_of s d).permissions
  pub users-below : (entry_of s d).users < 2 ^ users_of s
  pub permissions-below : (entry_of s d).permissions < 2 ^ permissions_of s

-- a row that is not refused by itself
pub record RowAlone (D C : ℕ) (x : Row) : Type 0 where
  pub derived : x.derived < D
  pub ordered : x.window.begin < x.window.end
  pub ends : x.window.end ≤ E
  pub some-length : 0 < x.window.length
  pub in-cycle : x.window.offset + x.window.length ≤ C

pub row-alone : (D C : ℕ) (x : Row) → row_bad D C x ≡ false → RowAlone D C x
unfolding row_bad
row-alone D C x h =
    let h1 = or_no _ _ h in
    let h2 = or_no _ _ h1.0 in
    let h3 = or_no _ _ h2.0 in
    let h4 = or_no _ _ h3.0 in
    record {
      derived = leb-false _ _ h4.0;
      ordered = leb-false _ _ h4.1;
      ends = ltb-false _ _ h3.1;
      some-length = pos_of _ h2.1;
      in-cycle = ltb-false _ _ h1.1;
    }

pub record RowFine (s : List ℕ) (i : ℕ) : Type 0 where
  pub alone : RowAlone (derived_of s) (cycle_of s) (row_of s i)
  pub follows : follows_before s i ≡ true

pub record TableFine (s : List ℕ) : Type 0 where
  pub header : HeaderFine s
  pub entries : (d : ℕ) → d < derived_of s → EntryFine s d
  pub rows : (i : ℕ) → i < rows_of s → RowFine s i

module _ (s : List ℕ) where
  pub header-fine : header_judged s ≡ 0 → HeaderFine s
  unfolding header_judged
  header-fine h =
      let h1 = or_else-zero (refuse 21 (ltb (length s) 16)) _ h in
      let h2 = or_else-zero _ _ h1.1 in
      let h3 = or_else-zero _ _ h2.1 in
      let h4 = or_else-zero _ _ h3.1 in
      let c = or_no _ _ (refuse-no _ _ h3.0) in
      let r = or_no _ _ (refuse-no _ _ h4.0) in
      let u = or_no _ _ r.0 in
      record {
        format = eqb-true _ _ (not-false _ (refuse-no _ _ h2.0));
        cycle-some = pos_of _ c.0;
        cycle-most = ltb-false _ _ c.1;
        users-most = ltb-false _ _ u.0;
        permissions-most = ltb-false _ _ u.1;
        roles-most = ltb-false _ _ r.1;
        whole = eqb-true _ _ (not-false _ (refuse-no _ _ h4.1));
      }

  header-clear : HeaderFine s → header_judged s ≡ 0
  unfolding header_judged refuse ◌or_else◌
  header-clear f =
      simp (
        le-ltb (length s) 16 (omega (arith, f.whole)),
        eq-eqb _ _ f.format,
        ne_eqb (cycle_of s) 0 (λ z. omega (arith, f.cycle-some)),
        le-ltb 40320 (cycle_of s) f.cycle-most,
        le-ltb 64 (users_of s) f.users-most,
        le-ltb 64 (permissions_of s) f.permissions-most,
        le-ltb 32 (roles_of s) f.roles-most,
        eq-eqb _ _ f.whole,
      )

  entry-fine : (d : ℕ) → entry_judged s d ≡ 0 → EntryFine s d
  unfolding entry_judged entry_bad
  entry-fine d h =
      let p = or_no _ _ (refuse-no _ _ h) in
      let u = or_no _ _ p.0 in
      let n = or_no _ _ u.0 in
      let m = or_no _ _ n.0 in
      let a = or_no _ _ m.0 in
      record {
        source = leb-false _ _ a.0;
        ascending = ltb-false _ _ a.1;
        some-user = pos_of _ m.1;
        some-permission = pos_of _ n.1;
        users-below = leb-false _ _ u.1;
        permissions-below = leb-false _ _ p.1;
      }

  entry-clear : (d : ℕ) → EntryFine s d → entry_judged s d ≡ 0
  unfolding entry_judged entry_bad refuse
  entry-clear d f =
      simp (
        lt-leb _ _ f.source,
        le-ltb _ _ f.ascending,
        ne_eqb (entry_of s d).users 0 (λ z. omega (arith, f.some-user)),
        ne_eqb (entry_of s d).permissions 0 (λ z. omega (arith, f.some-permission)),
        lt-leb _ _ f.users-below,
        lt-leb _ _ f.permissions-below,
      )

  row_fine : (i : ℕ) → row_judged s i ≡ 0 → RowFine s i
  unfolding row_judged
  row_fine i h =
      let h1 = or_else-zero _ _ h in
      record { alone = row-alone _ _ _ (refuse-no _ _ h1.0); follows = not-false _ (refuse-no _ _ h1.1) }

  row-clear : (i : ℕ) → RowFine s i → row_judged s i ≡ 0
  unfolding row_judged row_bad refuse ◌or_else◌
  row-clear i f =
      let a = f.alone in
      simp (
        lt-leb _ _ a.derived,
        lt-leb _ _ a.ordered,
        le-ltb _ _ a.ends,
        ne_eqb (row_of s i).window.length 0 (λ z. omega (arith, a.some-length)),
        le-ltb _ _ a.in-cycle,
        f.follows,
      )

  pub table-fine : table_judged s ≡ 0 → TableFine s
  unfolding table_judged
  table-fine h =
      let h1 = or_else-zero (header_judged s) _ h in
      let h2 = or_else-zero _ _ h1.1 in
      record {
        header = header-fine h1.0;
        entries = λ d l. entry-fine d (turns-all (entry_judged s) (derived_of s) d l h2.0);
        rows = λ i l. row_fine i (turns-all (row_judged s) (rows_of s) i l h2.1);
      }

  pub table-clear : TableFine s → table_judged s ≡ 0
  unfolding table_judged ◌or_else◌
  table-clear f =
      rw (
        header-clear f.header,
        turns-clear (entry_judged s) (derived_of s) (λ d l. entry-clear d (f.entries d l)),
        turns-clear (row_judged s) (rows_of s) (λ i l. row-clear i (f.rows i l)),
      )
