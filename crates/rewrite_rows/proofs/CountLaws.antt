-- How many rows there are, counted by the marks alone.
--     starts_none, starts-same, starts-one, starts-most    a field that begins no row, or one
--     runs-rows                                            the count is the number of rows that are written
--     runs-stretches, stretches-rows                       the same by stretches: a stretch of cells with one mark counts once
--     InCount, era-most                                    stretches of an era that are counted; no more rows than stretches
--     slice-marks, slice-have                              the marks of some of the stretches
--     Counting                                             eras that are counted
-- Assumes nothing.
use Prim.Native.Nat.{ℕ, zero, suc, ◌+◌, ◌-◌, ◌*◌, ◌≤◌, ◌<◌}
use mathlib.Core.Path.{◌≡◌, refl, sym, ◌∙◌, ap, ap₂, subst}
use mathlib.Core.Bool.{Bool, true, false, not, ◌&&◌}
use mathlib.Core.List.{List, [], ◌∷◌, ◌++◌, map}
use native.Mathlib.Omega.{arith}
use native.Mathlib.Nat.{add-zero}
use native.Mathlib.Numerals.{add-one}
use borrow.Author.Tests.{eqb-true, eqb-false, eq-eqb, ne_eqb}
use lib.Dec.{eqb}
use lib.ListN.{length, take, drop, get_or, replicate, length-append, length-drop}
use lib.Seq.{slice, get_or-take, get_or-drop, drop-cons, drop-length, slice-cons, slice_empty, length-take-le, length-slice, take_all, take-take, take-append-le, drop-append-le}
use Rattle.std.proofs.lemmas.List.{drop-take, drop-map, take-map}
use Rattle.ground.specs.Believed.Choice.{pick}
use Rattle.minutes.specs.Believed.Minutes.{Window}
use Rattle.table.specs.Believed.Table.{Row}
use Rattle.rewrite_rules.specs.Believed.Cuts.{Gap, gaps_from, gaps}
use Rattle.rewrite_rules.specs.Believed.Joined.{join_rows}
use Rattle.rewrite_rules.specs.Believed.Rewriting.{field_of, fields_of}
use Rattle.rewrite_rules.specs.Kinds.{by_kind}
use Rattle.rewrite_rules.specs.Roles.{marked, rows_marked}
use Rattle.rewrite_rules.proofs.CutLaws.{Above}
use Rattle.rewrite_rules.proofs.RunLaws.{run_on, run_ends, run-last, rows-later, era-by-era}
use Rattle.rewrite_rules.proofs.TableCuts.{gaps-length, gaps_from-low, rising-above}
use Rattle.rewrite_grid.specs.Grid.{Cuts}
use Rattle.rewrite_grid.specs.Stretches.{field_kinds, stretch_count, Stretched}
use Rattle.rewrite_grid.proofs.StretchLaws.{fields_from, fields_split, ends-rise}
use Rattle.rewrite_rows.specs.Parts.{field_marks, HaveMarks, role_rows, starts_row, runs_in, runs_of, runs_to, CountedRows}
use Rattle.rewrite_rows.proofs.FieldLaws.{gap, gaps-start, mark-is, marks-long, marks-append, marked-front}

-- ---- one field

pub starts_none : (m run : ℕ) → m ≡ 0 → starts_row m run ≡ 0
starts_none m run e = rw (eq-eqb m 0 e) refl

pub starts-same : (m run : ℕ) → m ≡ run → starts_row m run ≡ 0
starts-same m run e = rw (eq-eqb m run e) (go (eqb m 0))
  where
    go : (b : Bool) → ◌≡◌ {A = ℕ} (pick (not b && false) 1 0) 0
    go true = refl
    go false = refl

pub starts-one : (m run : ℕ) → (m ≡ 0 → ⊥) → (m ≡ run → ⊥) → starts_row m run ≡ 1
starts-one m run h k = rw (ne_eqb m 0 h, ne_eqb m run k) refl

pub starts-most : (m run : ℕ) → starts_row m run ≤ 1
starts-most m run = go (not (eqb m 0) && not (eqb m run))
  where
    go : (b : Bool) → pick b 1 0 ≤ 1
    go true = omega arith
    go false = omega arith

runs-most : (run : ℕ) (ms : List ℕ) → runs_in run ms ≤ length ms
unfolding runs_in
runs-most run [] = omega arith
runs-most run (m ∷ ms) = omega (arith, starts-most m run, runs-most m ms)

-- ---- the rows of one era

module _ (base : ℕ) (era : Gap) where
  abbrev cell : ℕ → ℕ → Window
  cell low high = field_of era (record { low = low; high = high })

  row_count : (f g : Window) (m : ℕ) → length (marked base f m []) ≡ length (marked base g m [])
  row_count f g zero = refl
  row_count f g (suc m) = refl

  starts-row : (f : Window) (m run : ℕ) → (m ≡ run → ⊥) → length (marked base f m []) ≡ starts_row m run
  starts-row f zero run h = refl
  starts-row f (suc m) run h = sym (starts-one (suc m) run (λ z. omega arith) h)

  -- after a run of cells with mark `run` from the phase `low` on
  run-count : (low run a : ℕ) (l ms : List ℕ) → low ≤ a → Above a l → length l ≡ length ms
      → length (join_rows (marked base (cell low a) run (rows_marked base (map (field_of era) (gaps_from a l)) ms)))
      ≡ length (marked base (cell low a) run []) + runs_in run ms
  unfolding runs_in rows_marked gaps_from
  run-count low run a [] [] h s n = ap length (run-last base (cell low a) run) ∙ omega arith
  run-count low run a [] (m ∷ ms) h s n = absurd (omega arith)
  run-count low run a (y ∷ l) [] h s n = absurd (omega arith)
  run-count low run a (y ∷ l) (m ∷ ms) h s n = go (λ low run k. run-count low run y l ms k s.1 (omega arith)) (eqb m run) refl
    where
      rest : List Row
      rest = rows_marked base (map (field_of era) (gaps_from y l)) ms

      go : ((low run : ℕ) → low ≤ y → length (join_rows (marked base (cell low y) run rest)) ≡ length (marked base (cell low y) run []) + runs_in run ms)
          → (b : Bool) → eqb m run ≡ b
          → length (join_rows (marked base (cell low a) run (marked base (cell a y) m rest)))
          ≡ length (marked base (cell low a) run []) + (starts_row m run + runs_in m ms)
      go ih true q =
          let e : m ≡ run = eqb-true m run q in
          ap (λ (k : ℕ). length (join_rows (marked base (cell low a) run (marked base (cell a y) k rest)))) e
          ∙ ap length (run_on base era low a y run rest h (omega (arith, s.0)))
          ∙ ih low run (omega (arith, s.0))
          ∙ ap₂ (λ (x y : ℕ). x + y) (row_count (cell low y) (cell low a) run)
          (ap (λ (k : ℕ). runs_in k ms) (sym e) ∙ omega (arith, starts-same m run e))
      go ih false q =
          let d : m ≡ run → ⊥ = eqb-false m run q in
          ap length
          (run_ends base era low a y run m rest (λ z. d (sym z)) h s.0 (rows-later base era a y l ms s.0 s.1)
          ∙ marked-front base (cell low a) run (join_rows (marked base (cell a y) m rest)))
          ∙ length-append (marked base (cell low a) run []) (join_rows (marked base (cell a y) m rest))
          ∙ ap (λ (k : ℕ). length (marked base (cell low a) run []) + k) (ih a m (omega (arith, s.0)) ∙ ap (λ (k : ℕ). k + runs_in m ms) (starts-row (cell a y) m run d))

  era-count : (a : ℕ) (l ms : List ℕ) → Above a l → length l ≡ length ms → length (join_rows (rows_marked base (map (field_of era) (gaps_from a l)) ms)) ≡ runs_in 0 ms
  era-count a l ms s n = run-count a 0 a l ms (omega arith) s n ∙ omega arith

-- ---- the rows of all eras

gaps-more : (c : ℕ) (cs : List ℕ) → length (gaps_from c cs) ≡ length cs
unfolding gaps
gaps-more c cs = gaps-length (c ∷ cs) ∙ omega arith

eras-count : (base a : ℕ) (l : List ℕ) (c : ℕ) (cs ks : List ℕ) → Above a l → Above c cs → length l * length cs ≤ length ks
    → length (join_rows (rows_marked base (fields_of (gaps_from a l) (gaps_from c cs)) ks)) ≡ runs_of (length l) (length cs) ks
unfolding runs_of gaps_from fields_of rows_marked join_rows
eras-count base a [] c cs ks s t n = refl
eras-count base a (y ∷ l) c cs ks s t n =
    let g : Gap = gap a y in
    let lc : length (gaps_from c cs) ≡ length cs = gaps-more c cs in
    let room : length cs ≤ length ks = omega arith in
    ap length
    (era-by-era base g (gaps_from y l) (gaps_from c cs) ks (gaps_from-low (suc a) y l s.0 s.1)
    ∙ ap (λ (n : ℕ). join_rows (rows_marked base (map (field_of g) (gaps_from c cs)) (take n ks)) ++ join_rows (rows_marked base (fields_of (gaps_from y l) (gaps_from c cs)) (drop n ks))) lc)
    ∙ length-append (join_rows (rows_marked base (map (field_of g) (gaps_from c cs)) (take (length cs) ks))) _
    ∙ ap₂ (λ (x y : ℕ). x + y) (era-count base g c cs (take (length cs) ks) t (sym (length-take-le (length cs) ks room)))
    (eras-count base y l c cs (drop (length cs) ks) s.1 t (omega (arith, length-drop (length cs) ks)))

-- marks past those of the eras do not count
runs-take : (n nc : ℕ) (ks : List ℕ) → runs_of n nc (take (n * nc) ks) ≡ runs_of n nc ks
unfolding runs_of
runs-take zero nc ks = refl
runs-take (suc n) nc ks =
    ap (λ (k : ℕ). runs_of (suc n) nc (take k ks)) (let q : suc n * nc ≡ nc + n * nc = omega arith in q)
    ∙ ap₂ (λ (x y : ℕ). x + y) (ap (runs_in 0) (take-take nc (nc + n * nc) ks (omega arith))) (ap (runs_of n nc) (drop-take nc (n * nc) ks) ∙ runs-take n nc (drop nc ks))

pub runs-rows : (base ne nc : ℕ) (eras cells ks : List ℕ) {l m : List ℕ} {x y : ℕ} → Cuts l eras ne x → Cuts m cells nc y → ne * nc ≤ length ks
    → length (role_rows base eras ne cells nc ks) ≡ runs_of ne nc ks
unfolding role_rows
runs-rows base ne nc eras cells ks u v h =
    let es = drop 1 (take (suc ne) eras) in
    let cs = drop 1 (take (suc nc) cells) in
    let le : length es ≡ ne = length-slice 1 (suc ne) eras u.long ∙ omega arith in
    let lc : length cs ≡ nc = length-slice 1 (suc nc) cells v.long ∙ omega arith in
    let fit : length es * length cs ≤ length (take (ne * nc) ks) = rw (le, lc, length-take-le (ne * nc) ks h) (omega arith) in
    ap₂ (λ (f g : List Gap). length (join_rows (rows_marked base (fields_of f g) (take (ne * nc) ks)))) (gaps-start ne eras u.long) (gaps-start nc cells v.long)
    ∙ eras-count base (get_or eras 0 0) es (get_or cells 0 0) cs (take (ne * nc) ks) (rising-above 0 ne eras (omega arith) u.long u.rise)
    (rising-above 0 nc cells (omega arith) v.long v.rise) fit
    ∙ ap₂ (λ (i j : ℕ). runs_of i j (take (ne * nc) ks)) le lc
    ∙ runs-take ne nc ks

-- ---- by stretches

runs_same : (m l : ℕ) (ms : List ℕ) → runs_in m (replicate l m ++ ms) ≡ runs_in m ms
unfolding runs_in
runs_same m zero ms = refl
runs_same m (suc l) ms = omega (arith, starts-same m m refl, runs_same m l ms)

-- a stretch counts once
runs-stretch : (m run l : ℕ) (ms : List ℕ) → 0 < l → runs_in run (replicate l m ++ ms) ≡ starts_row m run + runs_in m ms
unfolding runs_in
runs-stretch m run zero ms h = absurd (omega arith)
runs-stretch m run (suc l) ms h = ap (λ (k : ℕ). starts_row m run + k) (runs_same m l ms)

marks-stretch : (marks : List ℕ) (l k : ℕ) (ks : List ℕ) → field_marks marks (replicate l k ++ ks) ≡ replicate l (get_or marks k 0) ++ field_marks marks ks
unfolding field_marks
marks-stretch marks zero k ks = refl
marks-stretch marks (suc l) k ks = ap (λ (q : List ℕ). get_or marks k 0 ∷ q) (marks-stretch marks l k ks)

-- the stretches of an era, and their fields
stretches-count : (marks kinds lens : List ℕ) (n a b run : ℕ) → b ≡ a + n → b ≤ length kinds → ((j : ℕ) → j < b → 0 < get_or lens j 0)
    → runs_in run (slice a b (field_marks marks kinds)) ≡ runs_in run (field_marks marks (fields_from kinds lens a n))
unfolding runs_in
stretches-count marks kinds lens zero a b run q h some =
    let none : [] ≡ field_marks marks [] = unfold field_marks in refl in
    ap (λ (k : ℕ). runs_in run (slice a k (field_marks marks kinds))) (let z : b ≡ a = omega arith in z) ∙ ap (runs_in run) (slice_empty a (field_marks marks kinds) ∙ none)
stretches-count marks kinds lens (suc n) a b run q h some =
    let k = get_or kinds a 0 in
    let rest = fields_from kinds lens (suc a) n in
    ap (runs_in run) (slice-cons a b (field_marks marks kinds) 0 (omega arith) (omega (arith, marks-long marks kinds)))
    ∙ ap (λ (m : ℕ). starts_row m run + runs_in m (slice (suc a) b (field_marks marks kinds))) (mark-is marks kinds a (omega arith))
    ∙ ap (λ (x : ℕ). starts_row (get_or marks k 0) run + x) (stretches-count marks kinds lens n (suc a) b (get_or marks k 0) (omega arith) h some)
    ∙ sym (runs-stretch (get_or marks k 0) run (get_or lens a 0) (field_marks marks rest) (some a (omega arith)))
    ∙ ap (runs_in run) (sym (marks-stretch marks (get_or lens a 0) k rest))

-- one era more
runs-more : (n nc : ℕ) (ks ls : List ℕ) → length ks ≡ n * nc → length ls ≡ nc → runs_of (suc n) nc (ks ++ ls) ≡ runs_of n nc ks + runs_in 0 ls
unfolding runs_of
runs-more zero nc [] ls h k = ap (λ (l : List ℕ). runs_in 0 l + 0) (take_all nc ls (omega arith)) ∙ omega arith
runs-more zero nc (x ∷ ks) ls h k = absurd (omega arith)
runs-more (suc n) nc ks ls h k =
    let long : nc ≤ length ks = omega arith in
    ap₂ (λ (x y : List ℕ). runs_in 0 x + runs_of (suc n) nc y) (take-append-le nc ks ls long) (drop-append-le nc ks ls long)
    ∙ ap (λ (x : ℕ). runs_in 0 (take nc ks) + x) (runs-more n nc (drop nc ks) ls (omega (arith, length-drop nc ks)) k)
    ∙ omega arith

module _ {ne nc : ℕ} {kinds lens ends : List ℕ} (s : Stretched ne nc kinds lens ends) (marks : List ℕ) where
  eras-stretched : (e : ℕ) → e ≤ ne → runs_to ends (field_marks marks kinds) e ≡ runs_of e nc (field_marks marks (field_kinds kinds lens (get_or ends e 0)))
  unfolding runs_to
  eras-stretched zero h = unfold runs_of in refl
  eras-stretched (suc e) h =
      let a = get_or ends e 0 in
      let b = get_or ends (suc e) 0 in
      let up : a ≤ b = ends-rise ends ne s.rise e (suc e) (omega arith) h in
      let top : b ≤ stretch_count ends ne = ends-rise ends ne s.rise (suc e) ne h (omega arith) in
      let before = field_kinds kinds lens a in
      let here = fields_from kinds lens a (b - a) in
      let both : field_kinds kinds lens b ≡ before ++ here = fields_split kinds lens a b up in
      let long : length here ≡ nc = omega (arith, s.whole e (omega arith), s.whole (suc e) h, ap length both, length-append before here) in
      ap₂ (λ (x y : ℕ). x + y) (eras-stretched e (omega arith))
      (stretches-count marks kinds lens (b - a) a b 0 (omega arith) (omega (arith, s.long-kinds)) (λ j l. s.some j (omega arith)))
      ∙ sym (runs-more e nc (field_marks marks before) (field_marks marks here) (marks-long marks before ∙ s.whole e (omega arith)) (marks-long marks here ∙ long))
      ∙ ap (runs_of (suc e) nc) (sym (marks-append marks before here) ∙ ap (field_marks marks) (sym both))

  pub runs-stretches : runs_to ends (field_marks marks kinds) ne ≡ runs_of ne nc (field_marks marks (field_kinds kinds lens (stretch_count ends ne)))
  runs-stretches = eras-stretched ne (omega arith)

  -- the count by stretches is the number of rows that are written
  pub stretches-rows : (base : ℕ) (eras cells : List ℕ) {l m : List ℕ} {x y : ℕ} → Cuts l eras ne x → Cuts m cells nc y
      → length (role_rows base eras ne cells nc (field_marks marks (field_kinds kinds lens (stretch_count ends ne)))) ≡ runs_to ends (field_marks marks kinds) ne
  stretches-rows base eras cells u v =
      let ks = field_kinds kinds lens (stretch_count ends ne) in
      runs-rows base ne nc eras cells (field_marks marks ks) u v (omega (arith, marks-long marks ks, s.whole ne (omega arith))) ∙ sym runs-stretches

-- ---- one turn of each loop

-- in an era whose stretches have the marks ms: rows that begin before the stretch j, after which the run has mark `run`
pub record InCount (ms : List ℕ) (j run rows : ℕ) : Type 0 where
  pub few : rows ≤ j
  pub rest : rows + runs_in run (drop j ms) ≡ runs_in 0 ms

pub count-start : (ms : List ℕ) → InCount ms 0 0 0
count-start ms = record { few = omega arith; rest = omega arith }

module _ {ms : List ℕ} {j run rows : ℕ} (k : InCount ms j run rows) where
  pub count_turn : j < length ms → (m r : ℕ) → m ≡ get_or ms j 0 → r ≡ starts_row m run → InCount ms (j + 1) m (rows + r)
  unfolding runs_in
  count_turn h m r em er =
      let turn : runs_in run (drop j ms) ≡ starts_row m run + runs_in m (drop (j + 1) ms) =
      ap (runs_in run) (drop-cons ms j 0 h) ∙ ap₂ (λ (x i : ℕ). starts_row x run + runs_in x (drop i ms)) (sym em) (sym (add-one j)) in
      record { few = omega (arith, k.few, starts-most m run); rest = omega (arith, k.rest) }

  pub count-end : j ≡ length ms → rows ≡ runs_in 0 ms
  unfolding runs_in
  count-end q =
      let none : runs_in run (drop j ms) ≡ 0 = ap (λ (i : ℕ). runs_in run (drop i ms)) q ∙ ap (runs_in run) (drop-length ms) in
      omega (arith, k.rest)

-- the marks of the stretches from a to before b
pub slice-marks : (marks kinds : List ℕ) (a b : ℕ) → a ≤ b → field_marks marks (take (b - a) (drop a kinds)) ≡ slice a b (field_marks marks kinds)
unfolding field_marks
slice-marks marks kinds a b h =
    let e : a + (b - a) ≡ b = omega arith in
    sym (take-map (by_kind marks) (b - a) (drop a kinds)) ∙ ap (take (b - a)) (sym (drop-map (by_kind marks) a kinds))
    ∙ sym (drop-take a (b - a) (map (by_kind marks) kinds)) ∙ ap (λ (n : ℕ). drop a (take n (map (by_kind marks) kinds))) e

pub slice-have : (kinds marks : List ℕ) (a b : ℕ) → a ≤ b → HaveMarks b kinds marks → HaveMarks (length (take (b - a) (drop a kinds))) (take (b - a) (drop a kinds)) marks
slice-have kinds marks a b h p =
    let n : length (take (b - a) (drop a kinds)) ≡ b - a = length-take-le (b - a) (drop a kinds) (omega (arith, length-drop a kinds, p.long)) in
    record {
      long = omega arith;
      below =
          λ i l.
          let z : i < b - a = omega arith in
          let same : get_or (take (b - a) (drop a kinds)) i 0 ≡ get_or kinds (a + i) 0 = get_or-take (b - a) (drop a kinds) i 0 z ∙ get_or-drop a kinds i 0 in
          omega (arith, same, p.below (a + i) (omega arith));
    }

pub era-most : (first end : ℕ) (ms : List ℕ) → end ≤ length ms → runs_in 0 (slice first end ms) ≤ end - first
era-most first end ms h = omega (arith, runs-most 0 (slice first end ms), length-slice first end ms h)

-- rows that are counted in the eras before e
pub record Counting (ne : ℕ) (ends ms : List ℕ) (e rows : ℕ) : Type 0 where
  pub up_to : e ≤ ne
  pub few : rows ≤ get_or ends e 0
  pub are : rows ≡ runs_to ends ms e

pub counting-start : (ne : ℕ) (ends ms : List ℕ) → Counting ne ends ms 0 0
unfolding runs_to
counting-start ne ends ms = record { up_to = omega arith; few = omega arith; are = refl }

runs_up : (ends ms : List ℕ) (e d : ℕ) → runs_to ends ms e ≤ runs_to ends ms (e + d)
unfolding runs_to
runs_up ends ms e zero = rw (add-zero e) (omega arith)
runs_up ends ms e (suc d) = let q : e + suc d ≡ suc (e + d) = omega arith in rw q (omega (arith, runs_up ends ms e d))

module _ {ne : ℕ} {ends ms : List ℕ} {e rows : ℕ} (rise : (e : ℕ) → e < ne → get_or ends e 0 ≤ get_or ends (e + 1) 0) (k : Counting ne ends ms e rows) where
  pub counting-turn : get_or ends ne 0 ≤ length ms → e < ne → (r : ℕ) → r ≡ runs_in 0 (slice (get_or ends e 0) (get_or ends (e + 1) 0) ms) → Counting ne ends ms (e + 1) (rows + r)
  unfolding runs_to
  counting-turn hm h r q =
      let within : get_or ends (e + 1) 0 ≤ length ms = omega (arith, ends-rise ends ne rise (e + 1) ne (omega arith) (omega arith)) in
      record {
        up_to = omega arith;
        few = omega (arith, k.few, rise e h, era-most (get_or ends e 0) (get_or ends (e + 1) 0) ms within);
        are = rw (add-one e) (ap₂ (λ (x y : ℕ). x + y) k.are (rw (add-one e) at q));
      }

  all_most : rows ≤ get_or ends ne 0
  all_most = omega (arith, k.few, ends-rise ends ne rise e ne k.up_to (omega arith))

  -- stopped past the limit
  pub counting-past : (limit : ℕ) → limit < rows → CountedRows limit (runs_to ends ms ne) (get_or ends ne 0) rows
  counting-past limit h =
      let up : runs_to ends ms e ≤ runs_to ends ms ne =
      subst (λ (n : ℕ). runs_to ends ms e ≤ runs_to ends ms n) (let q : e + (ne - e) ≡ ne = omega (arith, k.up_to) in q) (runs_up ends ms e (ne - e)) in
      record { least = omega (arith, k.are); whole = λ l. absurd (omega arith); most = all_most }

  pub counting-end : (limit : ℕ) → e ≡ ne → CountedRows limit (runs_to ends ms ne) (get_or ends ne 0) rows
  counting-end limit q =
      let all : rows ≡ runs_to ends ms ne = k.are ∙ ap (runs_to ends ms) q in
      record { least = omega arith; whole = λ l. all; most = all_most }
