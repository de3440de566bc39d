-- An era written stretch by stretch, and a role era by era.
--     InEra     at a stretch of an era: it goes on with the run, or begins another; none is left
--     InRole    at an era of a role: it is written next; none is left
-- Assumes nothing.
use Prim.Native.Nat.{ℕ, zero, suc, ◌+◌, ◌-◌, ◌*◌, ◌≤◌, ◌<◌}
use mathlib.Core.Path.{◌≡◌, refl, sym, ◌∙◌, ap, ap₂, subst}
use mathlib.Core.List.{List, [], ◌++◌, map, append-nil}
use Rattle.std.proofs.Common.{append_assoc}
use native.Mathlib.Nat.{add-zero, add-suc}
use native.Mathlib.Numerals.{add-one}
use native.Mathlib.Omega.{arith}
use lib.ListN.{length, get_or, take, drop, replicate, length-drop, length-append}
use lib.Seq.{sets, take-append-le, drop-append-le, drop-length, get_or-take, get_or-drop, length-take-le}
use Rattle.ground.specs.Believed.Sequence.{joined}
use Rattle.table.specs.Believed.Table.{Row}
use Rattle.table.specs.Believed.TableBytes.{row_bytes}
use Rattle.rewrite_rules.specs.Believed.Cuts.{gaps}
use Rattle.rewrite_rules.specs.Believed.Joined.{join_rows}
use Rattle.rewrite_rules.specs.Believed.Rewriting.{field_of}
use Rattle.rewrite_rules.specs.Roles.{marked, rows_marked}
use Rattle.rewrite_grid.specs.Grid.{Cuts}
use Rattle.rewrite_grid.specs.Stretches.{field_kinds, stretch_count, Stretched}
use Rattle.rewrite_grid.proofs.StretchLaws.{fields_from, fields_split, fields-more, fields-mono, field_in, ends-rise}
use Rattle.rewrite_rows.specs.Parts.{field_marks, HaveMarks, EraStretched, cell_of, era_rows, stretch_rows, role_rows}
use Rattle.rewrite_rows.proofs.WriteLaws.{Writing, row-long, writing_start, writing-turn, writing-end, writing-room}
use Rattle.rewrite_rows.proofs.CountLaws.{slice-have}
use Rattle.rewrite_rows.proofs.FieldLaws.{gap, mark-is, marks-long, marks-append, fewer-marks, InRun, run-start, run-kept, run_room, run-written, role_left, role_start, role-turn, role-none}

-- ---- the stretches of an era

-- in an era, at the stretch j, which begins with the cell c: a run from the phase `low` on with mark m, of which no row is written yet
pub record InEra (base b e nc : ℕ) (cells kinds lens marks : List ℕ) (whole : List Row) (at : ℕ) (out₀ : List ℕ) (j c low m p : ℕ) (out : List ℕ) : Type 0 where
  pub up_to : j ≤ length kinds
  pub cell-is : c ≡ length (field_kinds kinds lens j)
  pub run : InRun base b e nc cells (field_marks marks (field_kinds kinds lens (length kinds))) 0 whole at out₀ c low m p out

pub era-begun : (base b e nc : ℕ) (cells kinds lens marks : List ℕ) → EraStretched nc kinds lens → Cuts (take (nc + 1) cells) cells nc 65535
    → (at : ℕ) (out : List ℕ)
    → InEra base b e nc cells kinds lens marks (era_rows base b e cells nc (field_marks marks (field_kinds kinds lens (length kinds))) 0) at out 0 0
    (get_or cells 0 0) 0 at out
era-begun base b e nc cells kinds lens marks s k at out =
    record { up_to = omega arith; cell-is = unfold field_kinds in refl; run = run-start base b e nc cells _ _ k at out }

module _ {base b e nc : ℕ} {cells kinds lens marks : List ℕ} {whole : List Row} {at : ℕ} {out₀ : List ℕ} {j c low m p : ℕ} {out : List ℕ}
    (hk : HaveMarks (length kinds) kinds marks) (s : EraStretched nc kinds lens) (k : Cuts (take (nc + 1) cells) cells nc 65535)
    (w : InEra base b e nc cells kinds lens marks whole at out₀ j c low m p out) where
  era-fits : 0 + nc ≤ length (field_marks marks (field_kinds kinds lens (length kinds)))
  era-fits = omega (arith, marks-long marks (field_kinds kinds lens (length kinds)), s.whole)

  module _ (h : j < length kinds) where
    stretch-some : 0 < get_or lens j 0
    stretch-some = s.some j h

    -- its cells
    pub stretch-within : c + get_or lens j 0 ≤ nc
    stretch-within = omega (arith, w.cell-is, fields-more kinds lens j, fields-mono kinds lens (suc j) (length kinds) h, s.whole)

    -- have its mark
    stretch-marks : (i : ℕ) → i < get_or lens j 0
        → get_or (field_marks marks (field_kinds kinds lens (length kinds))) (0 + (c + i)) 0 ≡ get_or (field_marks marks kinds) j 0
    stretch-marks i l =
        let place : 0 + (c + i) ≡ length (field_kinds kinds lens j) + i = omega (arith, w.cell-is) in
        let room : length (field_kinds kinds lens j) + i < length (field_kinds kinds lens (length kinds)) = omega (arith, fields-more kinds lens j, fields-mono kinds lens (suc j) (length kinds) h) in
        ap (λ (n : ℕ). get_or (field_marks marks (field_kinds kinds lens (length kinds))) n 0) place
        ∙ mark-is marks (field_kinds kinds lens (length kinds)) _ room
        ∙ ap (λ (n : ℕ). get_or marks n 0) (field_in kinds lens j (length kinds) i h l)
        ∙ sym (mark-is marks kinds j (omega (arith, hk.long)))

    first-mark : get_or (field_marks marks (field_kinds kinds lens (length kinds))) (0 + c) 0 ≡ get_or (field_marks marks kinds) j 0
    first-mark = subst (λ (n : ℕ). get_or (field_marks marks (field_kinds kinds lens (length kinds))) (0 + n) 0 ≡ get_or (field_marks marks kinds) j 0)
        (add-zero c) (stretch-marks 0 stretch-some)

    next-cell : c + get_or lens j 0 ≡ length (field_kinds kinds lens (j + 1))
    next-cell = omega (arith, w.cell-is, fields-more kinds lens j, ap (λ (n : ℕ). length (field_kinds kinds lens n)) (add-one j))

    -- the stretch has the mark of the run
    pub stretch-kept : get_or (field_marks marks kinds) j 0 ≡ m → (low' m' p' : ℕ) (out' : List ℕ) → out' ≡ out → p' ≡ p → m' ≡ m → low' ≡ low
        → InEra base b e nc cells kinds lens marks whole at out₀ (j + 1) (c + get_or lens j 0) low' m' p' out'
    stretch-kept q low' m' p' out' eo ep em el =
        rw (eo, ep, em, el)
        (record {
          up_to = omega arith;
          cell-is = next-cell;
          run = run-kept k era-fits w.run (get_or lens j 0) stretch-within (λ i l. stretch-marks i l ∙ q);
        })

    -- it has another: the row of the run is written
    module _ (q : get_or (field_marks marks kinds) j 0 ≡ m → ⊥) where
      another : get_or (field_marks marks (field_kinds kinds lens (length kinds))) (0 + c) 0 ≡ m → ⊥
      another z = q (sym first-mark ∙ z)

      pub stretch-room : at + 16 * length whole ≤ length out₀ → p + 16 * length (marked base (cell_of b e low (get_or cells c 0)) m []) ≤ length out
      stretch-room = run_room k era-fits w.run (omega (arith, stretch-some, stretch-within)) another

      pub stretch-written : (low' m' p' : ℕ) (out' : List ℕ) → out' ≡ sets out p (joined row_bytes (marked base (cell_of b e low (get_or cells c 0)) m []))
          → p' ≡ p + 16 * length (marked base (cell_of b e low (get_or cells c 0)) m []) → m' ≡ get_or (field_marks marks kinds) j 0 → low' ≡ get_or cells c 0
          → InEra base b e nc cells kinds lens marks whole at out₀ (j + 1) (c + get_or lens j 0) low' m' p' out'
      stretch-written low' m' p' out' eo ep em el =
          let l = get_or lens j 0 - 1 in
          let n : c + 1 + l ≡ c + get_or lens j 0 = omega (arith, stretch-some) in
          rw (em, el, ← first-mark)
          (record {
            up_to = omega arith;
            cell-is = next-cell;
            run =
                subst
                (λ (x : ℕ). InRun base b e nc cells (field_marks marks (field_kinds kinds lens (length kinds))) 0 whole at out₀ x (get_or cells c 0)
                (get_or (field_marks marks (field_kinds kinds lens (length kinds))) (0 + c) 0) p' out')
                n
                (run-kept k era-fits (run-written k era-fits w.run (omega (arith, stretch-some, stretch-within)) another p' out' eo ep) l (omega (arith, stretch-within))
                (λ i z.
                ap (λ (x : ℕ). get_or (field_marks marks (field_kinds kinds lens (length kinds))) (0 + x) 0) (let y : c + 1 + i ≡ c + (i + 1) = omega arith in y)
                ∙ stretch-marks (i + 1) (omega arith)
                ∙ sym first-mark));
          })

  -- no stretch is left
  pub era-full : j ≡ length kinds → c ≡ nc
  era-full q = omega (arith, w.cell-is, s.whole, ap (λ (n : ℕ). length (field_kinds kinds lens n)) q)

-- ---- the eras of a role

-- the marks of all fields
abbrev role_marks : ℕ → List ℕ → List ℕ → List ℕ → List ℕ → List ℕ
role_marks ne kinds lens ends marks = field_marks marks (field_kinds kinds lens (stretch_count ends ne))

-- the part from place a to before b
abbrev pub part : List ℕ → ℕ → ℕ → List ℕ
part l a b = take (b - a) (drop a l)

-- the rows of the era e, by its stretches
abbrev rows_at : ℕ → List ℕ → List ℕ → ℕ → List ℕ → List ℕ → List ℕ → List ℕ → ℕ → List Row
rows_at base eras cells nc kinds lens ends marks e =
    stretch_rows base (get_or eras e 0) (get_or eras (e + 1) 0) cells nc (part kinds (get_or ends e 0) (get_or ends (e + 1) 0)) (part lens (get_or ends e 0) (get_or ends (e + 1) 0)) marks

module _ (kinds lens : List ℕ) (a b : ℕ) (h : a ≤ b) (hk : b ≤ length kinds) (hl : b ≤ length lens) where
  part-long : (l : List ℕ) → b ≤ length l → length (part l a b) ≡ b - a
  part-long l k = length-take-le (b - a) (drop a l) (omega (arith, length-drop a l))

  part-at : (l : List ℕ) (i : ℕ) → i < b - a → get_or (part l a b) i 0 ≡ get_or l (a + i) 0
  part-at l i k = get_or-take (b - a) (drop a l) i 0 k ∙ get_or-drop a l i 0

  -- the fields of the first stretches of a part
  part-front : (m : ℕ) → m ≤ b - a → field_kinds kinds lens (a + m) ≡ field_kinds kinds lens a ++ field_kinds (part kinds a b) (part lens a b) m
  unfolding field_kinds
  part-front zero k = ap (field_kinds kinds lens) (add-zero a) ∙ sym (append-nil (field_kinds kinds lens a))
  part-front (suc m) k =
      ap (field_kinds kinds lens) (add-suc a m)
      ∙ ap₂ (λ (x y : List ℕ). x ++ y) (part-front m (omega arith)) (ap₂ (λ (n v : ℕ). replicate n v) (sym (part-at lens m (omega arith))) (sym (part-at kinds m (omega arith))))
      ∙ append_assoc (field_kinds kinds lens a) (field_kinds (part kinds a b) (part lens a b) m) (replicate (get_or (part lens a b) m 0) (get_or (part kinds a b) m 0))

  part-fields : field_kinds kinds lens b ≡ field_kinds kinds lens a ++ field_kinds (part kinds a b) (part lens a b) (length (part kinds a b))
  part-fields =
      let e : a + (b - a) ≡ b = omega arith in
      ap (field_kinds kinds lens) (sym e) ∙ part-front (b - a) (omega arith)
      ∙ ap (λ (n : ℕ). field_kinds kinds lens a ++ field_kinds (part kinds a b) (part lens a b) n) (sym (part-long kinds hk))

-- at the era e of a role: what is left of its rows, written from here, is the whole
pub record InRole (base ne nc : ℕ) (eras cells kinds lens ends marks : List ℕ) (at : ℕ) (out₀ : List ℕ) (e p : ℕ) (out : List ℕ) : Type 0 where
  pub up_to : e ≤ ne
  pub left : Writing row_bytes 16 (role_rows base eras ne cells nc (role_marks ne kinds lens ends marks)) at out₀ (role_left base e ne nc eras cells (role_marks ne kinds lens ends marks)) p out

pub role-begun : (base ne nc : ℕ) (eras cells kinds lens ends marks : List ℕ) → ne < length eras → (at : ℕ) (out : List ℕ)
    → InRole base ne nc eras cells kinds lens ends marks at out 0 at out
role-begun base ne nc eras cells kinds lens ends marks h at out =
    record { up_to = omega arith; left = writing_start _ at out _ at (role_start base ne nc eras cells (role_marks ne kinds lens ends marks) h) refl }

module _ {base ne nc top : ℕ} {eras cells kinds lens ends marks : List ℕ} {at : ℕ} {out₀ : List ℕ} {e p : ℕ} {out : List ℕ} (k : Cuts (take (ne + 1) eras) eras ne top)
    (w : InRole base ne nc eras cells kinds lens ends marks at out₀ e p out) where
  -- no era is left
  pub role-written : e ≡ ne → (out ≡ sets out₀ at (joined row_bytes (role_rows base eras ne cells nc (role_marks ne kinds lens ends marks))))
      × (p ≡ at + 16 * length (role_rows base eras ne cells nc (role_marks ne kinds lens ends marks)))
  role-written q = writing-end w.left (role-none base e ne nc top eras cells (role_marks ne kinds lens ends marks) k q)

  module _ (s : Stretched ne nc kinds lens ends) (h : e < ne) where
    era-below : get_or ends (e + 1) 0 ≤ stretch_count ends ne
    era-below = ends-rise ends ne s.rise (e + 1) ne (omega arith) (omega arith)

    era-long : (l : List ℕ) → stretch_count ends ne ≤ length l → get_or ends (e + 1) 0 ≤ length l
    era-long l n = omega (arith, era-below)

    pub era-marks : HaveMarks (stretch_count ends ne) kinds marks
        → HaveMarks (length (part kinds (get_or ends e 0) (get_or ends (e + 1) 0))) (part kinds (get_or ends e 0) (get_or ends (e + 1) 0)) marks
    era-marks p = slice-have kinds marks (get_or ends e 0) (get_or ends (e + 1) 0) (s.rise e h) (fewer-marks _ _ kinds marks era-below p)

    -- its fields follow those before it
    era-fields : field_kinds kinds lens (get_or ends (e + 1) 0)
        ≡ field_kinds kinds lens (get_or ends e 0) ++ field_kinds (part kinds (get_or ends e 0) (get_or ends (e + 1) 0)) (part lens (get_or ends e 0) (get_or ends (e + 1) 0)) (length (part kinds (get_or ends e 0) (get_or ends (e + 1) 0)))
    era-fields = part-fields kinds lens (get_or ends e 0) (get_or ends (e + 1) 0) (s.rise e h) (era-long kinds s.long-kinds) (era-long lens s.long-lens)

    pub era-stretched : EraStretched nc (part kinds (get_or ends e 0) (get_or ends (e + 1) 0)) (part lens (get_or ends e 0) (get_or ends (e + 1) 0))
    era-stretched =
        let a = get_or ends e 0 in
        let b = get_or ends (e + 1) 0 in
        let nk : length (part kinds a b) ≡ b - a = part-long kinds lens a b (s.rise e h) (era-long kinds s.long-kinds) (era-long lens s.long-lens) kinds (era-long kinds s.long-kinds) in
        let nl : length (part lens a b) ≡ b - a = part-long kinds lens a b (s.rise e h) (era-long kinds s.long-kinds) (era-long lens s.long-lens) lens (era-long lens s.long-lens) in
        record {
          long = omega arith;
          some =
              λ j l.
              let z : j < b - a = omega arith in
              omega (arith, part-at kinds lens a b (s.rise e h) (era-long kinds s.long-kinds) (era-long lens s.long-lens) lens j z, s.some (a + j) (omega (arith, era-below)));
          whole =
              omega (
                arith,
                s.whole e (omega arith),
                s.whole (e + 1) (omega arith),
                ap length era-fields,
                length-append (field_kinds kinds lens a) (field_kinds (part kinds a b) (part lens a b) (length (part kinds a b))),
              );
        }

    -- the marks of its fields are among all
    era-part : take nc (field_marks marks (field_kinds (part kinds (get_or ends e 0) (get_or ends (e + 1) 0)) (part lens (get_or ends e 0) (get_or ends (e + 1) 0)) (length (part kinds (get_or ends e 0) (get_or ends (e + 1) 0)))))
        ≡ take nc (drop (e * nc) (role_marks ne kinds lens ends marks))
    era-part =
        let a = get_or ends e 0 in
        let b = get_or ends (e + 1) 0 in
        let before = field_marks marks (field_kinds kinds lens a) in
        let fields = field_kinds (part kinds a b) (part lens a b) (length (part kinds a b)) in
        let here = field_marks marks fields in
        let later = field_marks marks (fields_from kinds lens b (stretch_count ends ne - b)) in
        let nb : length before ≡ e * nc = marks-long marks _ ∙ s.whole e (omega arith) in
        let nh : length here ≡ nc = marks-long marks fields ∙ era-stretched.whole in
        let all : (before ++ here) ++ later ≡ role_marks ne kinds lens ends marks =
        ap (λ (l : List ℕ). l ++ later) (sym (marks-append marks (field_kinds kinds lens a) fields) ∙ ap (field_marks marks) (sym era-fields))
        ∙ sym (marks-append marks _ _) ∙ ap (field_marks marks) (sym (fields_split kinds lens b (stretch_count ends ne) era-below)) in
        sym (ap (λ (l : List ℕ). take nc (drop (e * nc) l)) (sym all)
        ∙ ap (take nc) (drop-append-le (e * nc) (before ++ here) later (omega (arith, length-append before here)) ∙ ap (λ (l : List ℕ). l ++ later) (drop-append-le (e * nc) before here (omega arith) ∙ ap (λ (n : ℕ). drop n before ++ here) (sym nb) ∙ ap (λ (l : List ℕ). l ++ here) (drop-length before)))
        ∙ take-append-le nc here later (omega arith))

    rows_are : rows_at base eras cells nc kinds lens ends marks e
        ≡ era_rows base (get_or eras e 0) (get_or eras (e + 1) 0) cells nc (role_marks ne kinds lens ends marks) (e * nc)
    unfolding era_rows
    rows_are = ap (λ (l : List ℕ). join_rows (rows_marked base (map (field_of (gap (get_or eras e 0) (get_or eras (e + 1) 0))) (gaps (take (nc + 1) cells))) l)) era-part

    -- its rows are written next
    module _ (hc : nc < length cells) where
      era-next : role_left base e ne nc eras cells (role_marks ne kinds lens ends marks)
          ≡ rows_at base eras cells nc kinds lens ends marks e ++ role_left base (e + 1) ne nc eras cells (role_marks ne kinds lens ends marks)
      era-next =
          role-turn base e ne nc top eras cells (role_marks ne kinds lens ends marks) k h hc
          ∙ ap (λ (ws : List Row). ws ++ role_left base (e + 1) ne nc eras cells (role_marks ne kinds lens ends marks)) (sym rows_are)

      pub era-room : at + 16 * length (role_rows base eras ne cells nc (role_marks ne kinds lens ends marks)) ≤ length out₀
          → p + 16 * length (rows_at base eras cells nc kinds lens ends marks e) ≤ length out
      era-room = writing-room w.left (rows_at base eras cells nc kinds lens ends marks e) (role_left base (e + 1) ne nc eras cells (role_marks ne kinds lens ends marks)) era-next

      pub era-written : (p' : ℕ) (out' : List ℕ) → out' ≡ sets out p (joined row_bytes (rows_at base eras cells nc kinds lens ends marks e))
          → p' ≡ p + 16 * length (rows_at base eras cells nc kinds lens ends marks e) → InRole base ne nc eras cells kinds lens ends marks at out₀ (e + 1) p' out'
      era-written p' out' eo ep = record { up_to = omega arith; left = writing-turn w.left row-long (rows_at base eras cells nc kinds lens ends marks e) (role_left base (e + 1) ne nc eras cells (role_marks ne kinds lens ends marks)) p' out' era-next eo ep }
