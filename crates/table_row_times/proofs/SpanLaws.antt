-- The first minute from m on that a window covers, found without a search: of a window, and of the row at a position.
-- Assumes nothing.
use Prim.Native.Nat.{ℕ, ◌+◌, ◌*◌, ◌≤◌, ◌<◌, max}
use mathlib.Core.Path.{◌≡◌}
use mathlib.Core.Bool.{true}
use mathlib.Core.List.{List}
use native.Mathlib.Nat.{le_refl}
use native.Mathlib.Omega.{arith}
use Rattle.ground.specs.From.{first_from}
use Rattle.ground.proofs.BoolLaws.{not_yes}
use Rattle.ground.proofs.FromLaws.{is-first}
use Rattle.minutes.specs.Believed.Minutes.{E, Window, covers}
use Rattle.minutes.specs.First.{first_in}
use Rattle.minutes.proofs.FirstLaws.{first-ge, first-left, first-right, first-le}
use Rattle.minutes.proofs.WindowLaws.{In, covers-in, in-covers}
use Rattle.table.specs.Believed.TableBytes.{cycle_of, row_at_byte, row_of}
use Rattle.table.specs.Inside.{Opened}
use Rattle.table.specs.declared.Counts.{Counts}
use Rattle.table.proofs.HeaderLaws.{counts-are}
use Rattle.table.proofs.FineLaws.{table-fine}
use Rattle.table_answers.proofs.AnswerLaws.{row_inside}
use Rattle.table_row_times.specs.RowFirst.{RowReady}

-- x is the first minute, from m and the window's begin on, in the window's phase
module _ (c : ℕ) (w : Window) (m x : ℕ) (some-length : 0 < w.length) (in-cycle : w.offset + w.length ≤ c) (ends : w.end ≤ E)
    (is : x ≡ first_in c (max w.begin m) w.offset (w.offset + w.length)) where
  pos : 0 < c
  pos = omega arith

  wide : w.offset < w.offset + w.length
  wide = omega arith

  least : (v : ℕ) → m ≤ v → covers c w v ≡ true → (x ≤ v) × (v < w.end)
  least v l h =
      let i : In c w v = covers-in h in
      (omega (arith, first-le c (max w.begin m) _ _ pos wide in-cycle v (omega arith) i.left i.right), i.to)

  before-end : x < w.end → x ≡ first_from m E (covers c w)
  before-end h =
      let a = first-ge c (max w.begin m) _ _ pos wide in-cycle in
      is-first m E (covers c w) x
      (record {
        most = omega arith;
        from = λ l. omega arith;
        passes = λ l.
            in-covers
            (record {
              from = omega arith;
              to = h;
              left = rw is (first-left _ _ _ _ pos wide in-cycle);
              right = rw is (first-right _ _ _ _ pos wide in-cycle);
            });
        before = λ v l b. not_yes _ (λ k. omega (arith, least v l k));
      })

  past_end : w.end ≤ x → E ≡ first_from m E (covers c w)
  past_end h =
      is-first m E (covers c w) E
      (record {
        most = le_refl E;
        from = λ l. absurd (omega arith);
        passes = λ l. absurd (omega arith);
        before = λ v l b. not_yes _ (λ k. omega (arith, least v l k));
      })

-- a row of an accepted table is such
pub row-ready : (s : List ℕ) (n : Counts) → Opened s n → (i : ℕ) → i < n.rows → RowReady s (16 + 17 * n.derived + 16 * i)
unfolding row_of
row-ready s n o i l =
    let e = counts-are s n o.counts in
    let f = table-fine s o.clear in
    let a = (f.rows i (omega (arith, e.rows))).alone in
    record {
      inside = row_inside s n o i l;
      ordered = rw e.derived a.ordered;
      ends = rw e.derived a.ends;
      some-length = rw e.derived a.some-length;
      in-cycle = rw e.derived a.in-cycle;
      cycle-most = f.header.cycle-most;
    }

-- the row at a position has window w, and a is the later of its begin and m
module _ (s : List ℕ) (at : ℕ) (r : RowReady s at) (w : Window) (ew : w ≡ (row_at_byte s at).window) (c : ℕ) (ec : c ≡ cycle_of s) (m a : ℕ)
    (ea : a ≡ max w.begin m) where
  window-fits : (0 < w.length) × (w.offset + w.length ≤ c) × (w.end ≤ E) × (w.begin < w.end)
  window-fits = rw (ew, ec) (r.some-length, r.in-cycle, r.ends, r.ordered)

  pub in_reach : m ≤ E → (0 < c) × (c ≤ 40320) × (a ≤ E) × (w.offset ≤ c)
  in_reach h = let f = window-fits in let k = r.cycle-most in (omega arith, omega arith, omega arith, omega arith)

  -- x is the first minute from a on in its phase
  module _ (x : ℕ) (ex : x ≡ first_in c a w.offset (w.offset + w.length)) where
    pub covered-at : x < w.end → x ≡ first_from m E (covers (cycle_of s) (row_at_byte s at).window)
    covered-at h =
        let f = window-fits in
        rw (← ec, ← ew) (before-end c w m x f.0 f.1 f.2 (rw ea at ex) h)

    pub covered-never : w.end ≤ x → E ≡ first_from m E (covers (cycle_of s) (row_at_byte s at).window)
    covered-never h =
        let f = window-fits in
        rw (← ec, ← ew) (past_end c w m x f.0 f.1 f.2 (rw ea at ex) h)
