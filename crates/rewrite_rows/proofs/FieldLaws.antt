-- Fields and marks passed over one at a time: cells of an era, then eras.
--     gaps_left, gaps-start, gaps-turn, gaps-none, gaps-count    the gaps between cuts
--     mark-is, marks-long, marks-append, fewer-marks            the marks of fields by kind
--     role_left, role_start, role-turn, role-none                the rows of the eras that are left
--     InRun                                                     a run of cells with one mark: it goes on, ends, or is the last
-- Assumes nothing.
use Prim.Native.Nat.{ℕ, zero, suc, ◌+◌, ◌-◌, ◌*◌, ◌≤◌, ◌<◌}
use mathlib.Core.Path.{◌≡◌, refl, sym, ◌∙◌, ap, ap₂, subst}
use mathlib.Core.List.{List, [], ◌∷◌, ◌++◌, map, append-nil, map-append}
use native.Mathlib.Numerals.{add-one}
use native.Mathlib.Omega.{arith}
use native.Mathlib.Nat.{add-zero, zero-mul, mul-le-mul_right}
use lib.ListN.{length, get_or, take, drop, length-drop, length-map}
use lib.Seq.{sets, get_or-drop, length-take-le, take-take, drop-drop, slice_empty, slice-cons}
use Rattle.minutes.specs.Believed.Minutes.{Window}
use Rattle.ground.specs.Believed.Sequence.{joined}
use Rattle.table.specs.Believed.Table.{Row}
use Rattle.table.specs.Believed.TableBytes.{row_bytes}
use Rattle.table.specs.Inside.{row_made}
use Rattle.rewrite_rules.specs.Believed.Cuts.{Gap, gaps_from, gaps}
use Rattle.rewrite_rules.specs.Believed.Rewriting.{field_of, fields_of}
use Rattle.rewrite_rules.specs.Roles.{marked, rows_marked}
use Rattle.rewrite_rules.specs.Believed.Joined.{join_rows}
use Rattle.rewrite_rules.specs.Kinds.{by_kind}
use Rattle.rewrite_rules.proofs.KindLaws.{map_at}
use Rattle.rewrite_rules.proofs.RunLaws.{run_on, run_ends, run-last, cells-later, era-by-era}
use Rattle.rewrite_rules.proofs.TableCuts.{gaps-length, rising-later}
use Rattle.rewrite_grid.specs.Grid.{Cuts}
use Rattle.rewrite_rows.specs.Parts.{field_marks, HaveMarks, cell_of, era_rows, role_rows}
use Rattle.rewrite_rows.proofs.WriteLaws.{Writing, row-long, writing_start, writing-turn, writing-end, writing-room}

abbrev pub gap : ℕ → ℕ → Gap
gap a b = record { low = a; high = b }

-- ---- gaps

-- from the cut at i on, of n + 1 cuts
abbrev pub gaps_left : ℕ → ℕ → List ℕ → List Gap
gaps_left i n l = gaps_from (get_or l i 0) (drop (suc i) (take (suc n) l))

pub gaps-start : (n : ℕ) (l : List ℕ) → n < length l → gaps (take (n + 1) l) ≡ gaps_left 0 n l
unfolding gaps
gaps-start n [] h = absurd (omega arith)
gaps-start n (x ∷ l) h = ap (λ (k : ℕ). gaps (take k (x ∷ l))) (add-one n)

module _ (i n : ℕ) (l : List ℕ) (h : i < n) (k : n < length l) where
  gaps-step : gaps_left i n l ≡ gap (get_or l i 0) (get_or l (suc i) 0) ∷ gaps_left (suc i) n l
  unfolding gaps_from
  gaps-step = ap (gaps_from (get_or l i 0)) (slice-cons (suc i) (suc n) l 0 (omega arith) k)

  pub gaps-turn : gaps_left i n l ≡ gap (get_or l i 0) (get_or l (i + 1) 0) ∷ gaps_left (i + 1) n l
  gaps-turn = gaps-step ∙ ap (λ (j : ℕ). gap (get_or l i 0) (get_or l j 0) ∷ gaps_left j n l) (sym (add-one i))

pub gaps-none : (i n : ℕ) (l : List ℕ) → n < length l → i ≡ n → gaps_left i n l ≡ []
unfolding gaps_from
gaps-none i n l h e = ap (λ (k : ℕ). gaps_left k n l) e ∙ ap (gaps_from (get_or l n 0)) (slice_empty (suc n) l)

pub gaps-count : (n : ℕ) (l : List ℕ) → n < length l → length (gaps (take (n + 1) l)) ≡ n
gaps-count n l h = gaps-length (take (n + 1) l) ∙ omega (arith, length-take-le (n + 1) l (omega arith))

-- ---- rows

pub marked-front : (base : ℕ) (f : Window) (m : ℕ) (ws : List Row) → marked base f m ws ≡ marked base f m [] ++ ws
marked-front base f zero ws = refl
marked-front base f (suc k) ws = refl

-- one field: no row where the mark is 0, else one
module _ (base : ℕ) (f : Window) (out : List ℕ) (at : ℕ) where
  pub no_row : (m : ℕ) → m ≡ 0 → (out ≡ sets out at (joined row_bytes (marked base f m []))) × (at ≡ at + 16 * length (marked base f m []))
  unfolding joined
  no_row m e = rw e (refl, omega arith)

  pub one-row : (m : ℕ) → (m ≡ 0 → ⊥) → marked base f m [] ≡ row_made (base + (m - 1)) f ∷ []
  one-row zero h = absurd (h refl)
  one-row (suc k) h = let e : suc k - 1 ≡ k = omega arith in rw e

  pub row_written : (m : ℕ) (out' : List ℕ) → (m ≡ 0 → ⊥) → out' ≡ sets out at (row_bytes (row_made (base + (m - 1)) f))
      → (out' ≡ sets out at (joined row_bytes (marked base f m []))) × (at + 16 ≡ at + 16 * length (marked base f m []))
  unfolding joined
  row_written m out' h e = rw (one-row m h) (e ∙ ap (sets out at) (sym (append-nil (row_bytes (row_made (base + (m - 1)) f)))), omega arith)

-- the mark of a field is that of its kind
pub mark-is : (marks kinds : List ℕ) (i : ℕ) → i < length kinds → get_or (field_marks marks kinds) i 0 ≡ get_or marks (get_or kinds i 0) 0
unfolding field_marks
mark-is marks kinds i h = map_at (by_kind marks) kinds i h

pub marks-long : (marks kinds : List ℕ) → length (field_marks marks kinds) ≡ length kinds
unfolding field_marks
marks-long marks kinds = length-map kinds (by_kind marks)

pub marks-append : (marks ks ls : List ℕ) → field_marks marks (ks ++ ls) ≡ field_marks marks ks ++ field_marks marks ls
unfolding field_marks
marks-append marks ks ls = map-append (by_kind marks) ks ls

pub fewer-marks : (k n : ℕ) (kinds marks : List ℕ) → k ≤ n → HaveMarks n kinds marks → HaveMarks k kinds marks
fewer-marks k n kinds marks l h = record { long = omega (arith, h.long); below = λ i b. h.below i (omega arith) }

-- ---- the cells of an era

-- the marks of an era from the cell c on
abbrev pub marks_left : ℕ → ℕ → ℕ → List ℕ → List ℕ
marks_left c nc first ks = drop c (take nc (drop first ks))

pub marks-turn : (c nc first : ℕ) (ks : List ℕ) → c < nc → first + nc ≤ length ks
    → marks_left c nc first ks ≡ get_or ks (first + c) 0 ∷ marks_left (c + 1) nc first ks
marks-turn c nc first ks h hm =
    slice-cons c nc (drop first ks) 0 h (omega (arith, length-drop first ks))
    ∙ ap₂ (λ (m k : ℕ). m ∷ drop k (take nc (drop first ks))) (get_or-drop first ks c 0) (sym (add-one c))

module _ (base b e nc : ℕ) (cells ks : List ℕ) (first : ℕ) where
  -- unjoined, from the cell c on
  abbrev pub cells_left : ℕ → List Row
  cells_left c = rows_marked base (map (field_of (gap b e)) (gaps_left c nc cells)) (marks_left c nc first ks)

  -- the rows of an era that are left at the cell c, in a run with mark m that begins at the phase `low`
  abbrev pub era_left : ℕ → ℕ → ℕ → List Row
  era_left low m c = join_rows (marked base (cell_of b e low (get_or cells c 0)) m (cells_left c))

  module _ (k : Cuts (take (nc + 1) cells) cells nc 65535) where
    era-start : (low : ℕ) → era_left low 0 0 ≡ era_rows base b e cells nc ks first
    unfolding era_rows
    era-start low = ap (λ (g : List Gap). join_rows (rows_marked base (map (field_of (gap b e)) g) (take nc (drop first ks)))) (sym (gaps-start nc cells k.long))

    -- the run ends with the last cell
    era-end : (low m c : ℕ) → c ≡ nc → era_left low m c ≡ marked base (cell_of b e low (get_or cells nc 0)) m [] ++ []
    unfolding rows_marked
    era-end low m c q =
        ap (λ (ws : List Row). join_rows (marked base (cell_of b e low (get_or cells c 0)) m ws))
        (ap (λ (g : List Gap). rows_marked base (map (field_of (gap b e)) g) (marks_left c nc first ks)) (gaps-none c nc cells k.long q))
        ∙ run-last base (cell_of b e low (get_or cells c 0)) m
        ∙ ap (λ (j : ℕ). marked base (cell_of b e low (get_or cells j 0)) m []) q
        ∙ sym (append-nil (marked base (cell_of b e low (get_or cells nc 0)) m []))

    module _ (low m c : ℕ) (h : c < nc) (hm : first + nc ≤ length ks) (hl : low ≤ get_or cells c 0) where
      cells-turn : cells_left c ≡ marked base (cell_of b e (get_or cells c 0) (get_or cells (c + 1) 0)) (get_or ks (first + c) 0) (cells_left (c + 1))
      unfolding rows_marked
      cells-turn =
          ap₂ (λ (g : List Gap) (l : List ℕ). rows_marked base (map (field_of (gap b e)) g) l) (gaps-turn c nc cells h k.long) (marks-turn c nc first ks h hm)

      -- a cell with the mark of the run
      era-on : get_or ks (first + c) 0 ≡ m → era_left low m c ≡ era_left low m (c + 1)
      era-on q =
          ap (λ (ws : List Row). join_rows (marked base (cell_of b e low (get_or cells c 0)) m ws))
          (cells-turn ∙ ap (λ (n : ℕ). marked base (cell_of b e (get_or cells c 0) (get_or cells (c + 1) 0)) n (cells_left (c + 1))) q)
          ∙ run_on base (gap b e) low (get_or cells c 0) (get_or cells (c + 1) 0) m (cells_left (c + 1)) hl (omega (arith, k.rise c h))

      -- a cell with another: the row of the run, and a run that begins with the cell
      era-ends : (get_or ks (first + c) 0 ≡ m → ⊥)
          → era_left low m c ≡ marked base (cell_of b e low (get_or cells c 0)) m [] ++ era_left (get_or cells c 0) (get_or ks (first + c) 0) (c + 1)
      era-ends q =
          ap (λ (ws : List Row). join_rows (marked base (cell_of b e low (get_or cells c 0)) m ws)) cells-turn
          ∙ run_ends base (gap b e) low (get_or cells c 0) (get_or cells (c + 1) 0) m (get_or ks (first + c) 0) (cells_left (c + 1)) (λ z. q (sym z)) hl (k.rise c h)
          (cells-later base (gap b e) (get_or cells c 0) (gaps_left (c + 1) nc cells) (marks_left (c + 1) nc first ks) (rising-later c nc cells h k.long k.rise))
          ∙ marked-front base (cell_of b e low (get_or cells c 0)) m (era_left (get_or cells c 0) (get_or ks (first + c) 0) (c + 1))

-- ---- eras

take-drop-take : (k i n : ℕ) (l : List ℕ) → i + k ≤ n → take k (drop i (take n l)) ≡ take k (drop i l)
take-drop-take k zero n l h = take-take k n l (omega arith)
take-drop-take k (suc i) zero l h = absurd (omega arith)
take-drop-take k (suc i) (suc n) [] h = refl
take-drop-take k (suc i) (suc n) (x ∷ l) h = take-drop-take k i n l (omega arith)

-- the rows of a role from the era e on
abbrev pub role_left : ℕ → ℕ → ℕ → ℕ → List ℕ → List ℕ → List ℕ → List Row
role_left base e ne nc eras cells ks = join_rows (rows_marked base (fields_of (gaps_left e ne eras) (gaps (take (nc + 1) cells))) (drop (e * nc) (take (ne * nc) ks)))

pub role_start : (base ne nc : ℕ) (eras cells ks : List ℕ) → ne < length eras → role_left base 0 ne nc eras cells ks ≡ role_rows base eras ne cells nc ks
unfolding role_rows
role_start base ne nc eras cells ks h =
    ap₂ (λ (g : List Gap) (i : ℕ). join_rows (rows_marked base (fields_of g (gaps (take (nc + 1) cells))) (drop i (take (ne * nc) ks)))) (sym (gaps-start ne eras h))
    (zero-mul nc)

module _ (base e ne nc top : ℕ) (eras cells ks : List ℕ) (k : Cuts (take (ne + 1) eras) eras ne top) where
  pub role-turn : e < ne → nc < length cells
      → role_left base e ne nc eras cells ks
      ≡ era_rows base (get_or eras e 0) (get_or eras (e + 1) 0) cells nc ks (e * nc) ++ role_left base (e + 1) ne nc eras cells ks
  unfolding era_rows
  role-turn h hc =
      let g = gap (get_or eras e 0) (get_or eras (e + 1) 0) in
      let cs = gaps (take (nc + 1) cells) in
      let here = map (field_of g) cs in
      let later = fields_of (gaps_left (e + 1) ne eras) cs in
      let ms = drop (e * nc) (take (ne * nc) ks) in
      let lc : length cs ≡ nc = gaps-count nc cells hc in
      let next : e * nc + nc ≡ (e + 1) * nc = omega arith in
      ap (λ (x : List Gap). join_rows (rows_marked base (fields_of x cs) ms)) (gaps-turn e ne eras h k.long)
      ∙ era-by-era base g (gaps_left (e + 1) ne eras) cs ms (rising-later e ne eras h k.long k.rise)
      ∙ ap₂ (λ (x y : List ℕ). join_rows (rows_marked base here x) ++ join_rows (rows_marked base later y))
      (ap (λ (j : ℕ). take j ms) lc ∙ take-drop-take nc (e * nc) (ne * nc) ks (omega (arith, mul-le-mul_right nc h)))
      (ap (λ (j : ℕ). drop j ms) lc ∙ drop-drop nc (e * nc) (take (ne * nc) ks) ∙ ap (λ (j : ℕ). drop j (take (ne * nc) ks)) next)

  pub role-none : e ≡ ne → role_left base e ne nc eras cells ks ≡ []
  unfolding fields_of rows_marked join_rows
  role-none q =
      ap (λ (g : List Gap). join_rows (rows_marked base (fields_of g (gaps (take (nc + 1) cells))) (drop (e * nc) (take (ne * nc) ks)))) (gaps-none e ne eras k.long q)

-- ---- a run of cells

-- in an era, at the cell c: a run from the phase `low` on with mark m, of which no row is written yet
pub record InRun (base b e nc : ℕ) (cells ks : List ℕ) (first : ℕ) (whole : List Row) (at : ℕ) (out₀ : List ℕ) (c low m p : ℕ) (out : List ℕ) : Type 0 where
  pub up_to : c ≤ nc
  pub from : low ≤ get_or cells c 0
  pub left : Writing row_bytes 16 whole at out₀ (era_left base b e nc cells ks first low m c) p out

pub run-start : (base b e nc : ℕ) (cells ks : List ℕ) (first : ℕ) → Cuts (take (nc + 1) cells) cells nc 65535 → (at : ℕ) (out : List ℕ)
    → InRun base b e nc cells ks first (era_rows base b e cells nc ks first) at out 0 (get_or cells 0 0) 0 at out
run-start base b e nc cells ks first k at out =
    record {
      up_to = omega arith;
      from = omega arith;
      left = writing_start (era_rows base b e cells nc ks first) at out _ at (era-start base b e nc cells ks first k (get_or cells 0 0)) refl;
    }

module _ {base b e nc : ℕ} {cells ks : List ℕ} {first : ℕ} {whole : List Row} {at : ℕ} {out₀ : List ℕ} (k : Cuts (take (nc + 1) cells) cells nc 65535)
    (hm : first + nc ≤ length ks) where
  -- the next cell has the mark of the run, and then the next l cells
  run-on-one : {c low m p : ℕ} {out : List ℕ} → InRun base b e nc cells ks first whole at out₀ c low m p out → c < nc → get_or ks (first + c) 0 ≡ m
      → InRun base b e nc cells ks first whole at out₀ (c + 1) low m p out
  run-on-one {c} {low} {m} {p} {out} w h q =
      record {
        up_to = omega arith;
        from = omega (arith, w.from, k.rise c h);
        left = subst (λ (l : List Row). Writing row_bytes 16 whole at out₀ l p out) (era-on base b e nc cells ks first k low m c h hm w.from q) w.left;
      }

  pub run-kept : {c low m p : ℕ} {out : List ℕ} → InRun base b e nc cells ks first whole at out₀ c low m p out → (l : ℕ) → c + l ≤ nc
      → ((i : ℕ) → i < l → get_or ks (first + (c + i)) 0 ≡ m) → InRun base b e nc cells ks first whole at out₀ (c + l) low m p out
  run-kept {c} w zero h q = rw (add-zero c) w
  run-kept {c} w (suc l) h q =
      let n : c + suc l ≡ c + l + 1 = omega arith in
      rw n (run-on-one (run-kept w l (omega arith) (λ i z. q i (omega arith))) (omega arith) (q l (omega arith)))

  -- the next cell has another: the row of the run is written
  module _ {c low m p : ℕ} {out : List ℕ} (w : InRun base b e nc cells ks first whole at out₀ c low m p out) (h : c < nc) (q : get_or ks (first + c) 0 ≡ m → ⊥) where
    pub run_room : at + 16 * length whole ≤ length out₀ → p + 16 * length (marked base (cell_of b e low (get_or cells c 0)) m []) ≤ length out
    run_room l =
        writing-room w.left (marked base (cell_of b e low (get_or cells c 0)) m [])
        (era_left base b e nc cells ks first (get_or cells c 0) (get_or ks (first + c) 0) (c + 1)) (era-ends base b e nc cells ks first k low m c h hm w.from q) l

    pub run-written : (p' : ℕ) (out' : List ℕ) → out' ≡ sets out p (joined row_bytes (marked base (cell_of b e low (get_or cells c 0)) m []))
        → p' ≡ p + 16 * length (marked base (cell_of b e low (get_or cells c 0)) m [])
        → InRun base b e nc cells ks first whole at out₀ (c + 1) (get_or cells c 0) (get_or ks (first + c) 0) p' out'
    run-written p' out' eo ep =
        record {
          up_to = omega arith;
          from = omega (arith, k.rise c h);
          left =
              writing-turn w.left row-long (marked base (cell_of b e low (get_or cells c 0)) m [])
              (era_left base b e nc cells ks first (get_or cells c 0) (get_or ks (first + c) 0) (c + 1)) p' out'
              (era-ends base b e nc cells ks first k low m c h hm w.from q) eo ep;
        }

-- no cell is left
module _ {base b e nc : ℕ} {cells ks : List ℕ} {first : ℕ} {whole : List Row} {at : ℕ} {out₀ : List ℕ} {c low m p : ℕ} {out : List ℕ}
    (k : Cuts (take (nc + 1) cells) cells nc 65535) (w : InRun base b e nc cells ks first whole at out₀ c low m p out) (h : c ≡ nc) where
  pub last-room : at + 16 * length whole ≤ length out₀ → p + 16 * length (marked base (cell_of b e low (get_or cells nc 0)) m []) ≤ length out
  last-room l = writing-room w.left (marked base (cell_of b e low (get_or cells nc 0)) m []) [] (era-end base b e nc cells ks first k low m c h) l

  pub last-from : low ≤ get_or cells nc 0
  last-from = subst (λ (j : ℕ). low ≤ get_or cells j 0) h w.from

  pub last_written : (p' : ℕ) (out' : List ℕ) → out' ≡ sets out p (joined row_bytes (marked base (cell_of b e low (get_or cells nc 0)) m []))
      → p' ≡ p + 16 * length (marked base (cell_of b e low (get_or cells nc 0)) m [])
      → (out' ≡ sets out₀ at (joined row_bytes whole)) × (p' ≡ at + 16 * length whole)
  last_written p' out' eo ep =
      writing-end
      (writing-turn w.left row-long (marked base (cell_of b e low (get_or cells nc 0)) m []) [] p' out' (era-end base b e nc cells ks first k low m c h) eo ep)
      refl
