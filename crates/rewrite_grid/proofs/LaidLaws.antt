-- The masks that the code makes are the masks of the fields, and the arrays of cuts hold all that `Divided` says.
--     mask_is                                the mask of one field
--     masks-none, masks-more, masks-all      the masks of no era, of one era more, and of all
--     eras-cut, cells_cut, divided           the arrays of cuts
--     fields-few                             how many fields there are at most
-- Assumes nothing.
use Prim.Native.Nat.{ℕ, ◌+◌, ◌-◌, ◌*◌, ◌%◌, ◌≤◌, ◌<◌}
use mathlib.Core.Path.{◌≡◌, refl, sym, ap, ◌∙◌}
use mathlib.Core.Bool.{◌&&◌}
use mathlib.Core.List.{List, [], ◌∷◌, ◌++◌, map, Memᴰ, append_assoc, append-nil, map-append}
use native.Mathlib.Nat.{le_antisymm, mul-le-mul_right}
use native.Mathlib.Omega.{arith}
use lib.ListN.{length, get_or}
use Rattle.ground.specs.Believed.Choice.{pick}
use Rattle.ground.specs.Believed.Sequence.{list_of}
use Rattle.ground.proofs.BoolLaws.{by-ltb}
use Rattle.ground.proofs.SequenceLaws.{list_of-length, list_of-more, list_of-same, map-list_of, get-list_of}
use Rattle.bitset.specs.Believed.Sets.{set_of, insert, intersection}
use Rattle.bitset.proofs.SetLaws.{set_of-same, intersection-set_of}
use Rattle.minutes.specs.Believed.Minutes.{E}
use Rattle.hours.specs.Believed.Hours.{Hours, holds, never}
use Rattle.hours.specs.Believed.HoursBytes.{hours_from}
use Rattle.hours.specs.Inside.{dates_hold, pairs_hold, records_that}
use Rattle.rota.specs.Believed.Rota.{Rota}
use Rattle.rota.specs.Believed.RotaBytes.{header_length, cycle_of, hours_of, rota_of}
use Rattle.rota.specs.Believed.RotaRefusals.{rota_judged}
use Rattle.rota.proofs.RotaFine.{rota-fine}
use Rattle.rota.proofs.RotaTheorems.{accepted-well}
use Rattle.rewrite_rules.specs.Believed.Cuts.{Gap, gaps}
use Rattle.rewrite_rules.specs.Believed.Rewriting.{hours_cuts, pairs_cuts, era_cuts, cell_cuts, field_of, fields_of, fields}
use Rattle.minutes.specs.First.{first_in}
use Rattle.minutes.proofs.FirstLaws.{first-ge, first-left, first-right}
use Rattle.rewrite_rules.specs.Masks.{mask_of}
use Rattle.rewrite_rules.proofs.CutLaws.{Inside}
use Rattle.rewrite_rules.proofs.ValueLaws.{era-values, cell-values, hours_cuts-length, pairs_cuts-length}
use Rattle.rewrite_cuts.specs.Added.{Added, hours_no}
use Rattle.rewrite_grid.specs.Grid.{field_mask, gap_at, InCells, mask_in, Cuts, masks_to, Parted, Divided}
use Rattle.rewrite_cuts.proofs.RecordLaws.{few-hours}
use Rattle.rewrite_grid.proofs.OrderLaws.{gaps-at, gap-in, added-cuts}
use Rattle.rewrite_grid.proofs.FieldLaws.{holds-split}

-- ---- by index
fields_snoc : (es cs : List Gap) (e : Gap) → fields_of (es ++ (e ∷ [])) cs ≡ fields_of es cs ++ map (field_of e) cs
unfolding fields_of
fields_snoc [] cs e = append-nil (map (field_of e) cs)
fields_snoc (g ∷ es) cs e = ap (λ l. map (field_of g) cs ++ l) (fields_snoc es cs e) ∙ sym (append_assoc (map (field_of g) cs) (fields_of es cs) (map (field_of e) cs))

-- ---- one field
mask-by : (ρ : Rota) (dates pairs b e o f : ℕ) → o ≤ f
    → (first_in ρ.cycle b o f < e → set_of (length ρ.hours) (λ k. holds ρ.cycle (get_or ρ.hours k never) (first_in ρ.cycle b o f)) ≡ intersection dates pairs)
    → field_mask ρ.cycle dates pairs b e o f ≡ mask_of ρ (record { begin = b; end = e; offset = o; length = f - o })
unfolding field_mask mask_of
mask-by ρ dates pairs b e o f l same =
    let q : o + (f - o) ≡ f = omega arith in
    rw q
    (by-ltb
    (λ z. pick z (insert (intersection dates pairs) 32) 0
    ≡ pick z (insert (set_of (length ρ.hours) (λ k. holds ρ.cycle (get_or ρ.hours k never) (first_in ρ.cycle b o f))) 32) 0)
    (first_in ρ.cycle b o f) e (λ h. ap (λ x. insert x 32) (sym (same h))) (λ h. refl))

-- ---- all fields
-- before the first era there are none
pub masks-none : (s eras : List ℕ) → masks_to s eras 0 ≡ []
unfolding masks_to list_of fields_of
masks-none s eras = refl

module _ (s : List ℕ) (ok : rota_judged s ≡ 0) where
  -- at a minute t of a field the records that hold are those whose parts, judged at the field's corner, do
  holding-is : (era cell : Gap) → Memᴰ era (gaps (era_cuts (rota_of s))) → Memᴰ cell (gaps (cell_cuts (rota_of s))) → (t : ℕ) → Inside era t
      → Inside cell (t % cycle_of s)
      → set_of (length (rota_of s).hours) (λ k. holds (rota_of s).cycle (get_or (rota_of s).hours k never) t)
      ≡ intersection (records_that s (header_length s) (hours_of s) (dates_hold era.low)) (records_that s (header_length s) (hours_of s) (pairs_hold cell.low))
  unfolding rota_of hours_from records_that
  holding-is era cell m n t a b =
      ap (λ (n : ℕ). set_of n (λ k. holds (cycle_of s) (get_or (list_of (hours_of s) (hours_no s)) k never) t)) (list_of-length (hours_of s) (hours_no s))
      ∙ set_of-same (hours_of s) _ _
      (λ k l.
      holds-split (rota_of s) era cell m n t a b k
      ∙ ap (λ (h : Hours). dates_hold era.low h && pairs_hold cell.low h) (get-list_of (hours_of s) (hours_no s) never k l))
      ∙ sym (intersection-set_of (hours_of s) (λ k. dates_hold era.low (hours_no s k)) (λ k. pairs_hold cell.low (hours_no s k)) (omega (arith, few-hours s ok)))

  module _ (eras cells : List ℕ) (ne nc : ℕ) (ce : Cuts (era_cuts (rota_of s)) eras ne E) (cc : Cuts (cell_cuts (rota_of s)) cells nc (cycle_of s)) where
    pub mask_is : (i j : ℕ) → i < ne → j < nc
        → field_mask (cycle_of s) (records_that s (header_length s) (hours_of s) (dates_hold (get_or eras i 0))) (records_that s (header_length s) (hours_of s) (pairs_hold (get_or cells j 0)))
        (get_or eras i 0) (get_or eras (i + 1) 0) (get_or cells j 0) (get_or cells (j + 1) 0)
        ≡ mask_of (rota_of s) (field_of (gap_at eras i) (gap_at cells j))
    unfolding rota_of
    mask_is i j hi hj =
        let b = get_or eras i 0 in
        let e = get_or eras (i + 1) 0 in
        let o = get_or cells j 0 in
        let f = get_or cells (j + 1) 0 in
        let pos : 0 < cycle_of s = (rota-fine s ok).header.cycle-some in
        let oe : o < f = cc.rise j hj in
        let ec : f ≤ cycle_of s = cc.most (j + 1) (omega arith) in
        mask-by (rota_of s) _ _ b e o f (omega arith)
        (λ h.
        holding-is (gap_at eras i) (gap_at cells j) (gap-in _ eras ne ce.long ce.are i hi) (gap-in _ cells nc cc.long cc.are j hj) (first_in (cycle_of s) b o f)
        (first-ge (cycle_of s) b o f pos oe ec, h)
        (first-left (cycle_of s) b o f pos oe ec, first-right (cycle_of s) b o f pos oe ec))

    -- the masks of one era
    row_is : (i dates : ℕ) (pairs : List ℕ) → i < ne → dates ≡ records_that s (header_length s) (hours_of s) (dates_hold (get_or eras i 0)) → InCells s (hours_of s) cells nc pairs
        → list_of nc (mask_in (cycle_of s) dates (get_or eras i 0) (get_or eras (i + 1) 0) cells pairs)
        ≡ map (mask_of (rota_of s)) (map (field_of (gap_at eras i)) (gaps (cell_cuts (rota_of s))))
    unfolding mask_in
    row_is i dates pairs hi ed in_cells =
        list_of-same nc _ (λ j. mask_of (rota_of s) (field_of (gap_at eras i) (gap_at cells j))) (λ j hj. rw (ed, in_cells.each j hj) (mask_is i j hi hj))
        ∙ sym (map-list_of (mask_of (rota_of s)) nc (λ j. field_of (gap_at eras i) (gap_at cells j)))
        ∙ ap (map (mask_of (rota_of s))) (sym (map-list_of (field_of (gap_at eras i)) nc (gap_at cells)) ∙ ap (map (field_of (gap_at eras i))) (sym (gaps-at _ cells nc cc.long cc.are)))

    -- one era more
    pub masks-more : (i : ℕ) {cycle h dates : ℕ} {pairs : List ℕ} → i < ne → cycle ≡ cycle_of s → h ≡ hours_of s
        → dates ≡ records_that s (header_length s) h (dates_hold (get_or eras i 0)) → InCells s h cells nc pairs
        → masks_to s eras (i + 1) ≡ masks_to s eras i ++ list_of nc (mask_in cycle dates (get_or eras i 0) (get_or eras (i + 1) 0) cells pairs)
    unfolding masks_to
    masks-more i {cycle} {h} {dates} {pairs} hi ec eh ed in_cells =
        ap (map (mask_of (rota_of s))) (ap (λ (es : List Gap). fields_of es cs) (list_of-more i (gap_at eras)) ∙ fields_snoc (list_of i (gap_at eras)) cs (gap_at eras i))
        ∙ map-append (mask_of (rota_of s)) (fields_of (list_of i (gap_at eras)) cs) (map (field_of (gap_at eras i)) cs)
        ∙ ap (λ (l : List ℕ). map (mask_of (rota_of s)) (fields_of (list_of i (gap_at eras)) cs) ++ l) (sym row)
      where
        cs : List Gap
        cs = gaps (cell_cuts (rota_of s))

        row : list_of nc (mask_in cycle dates (get_or eras i 0) (get_or eras (i + 1) 0) cells pairs)
            ≡ map (mask_of (rota_of s)) (map (field_of (gap_at eras i)) (gaps (cell_cuts (rota_of s))))
        row = rw ec (row_is i dates pairs hi (rw eh at ed) (rw eh at in_cells))

    -- after the last they are those of all fields
    pub masks-all : (i : ℕ) → i ≤ ne → ne ≤ i → masks_to s eras i ≡ map (mask_of (rota_of s)) (fields (rota_of s))
    unfolding masks_to fields
    masks-all i h l =
        let q : i ≡ ne = le_antisymm h l in
        ap (λ (es : List Gap). map (mask_of (rota_of s)) (fields_of es (gaps (cell_cuts (rota_of s)))))
        (ap (λ (k : ℕ). list_of k (gap_at eras)) q ∙ sym (gaps-at _ eras ne ce.long ce.are))

  -- what the functions that add the cuts leave
  module _ {a b : List ℕ} {m : ℕ} where
    pub eras-few : Added a 0 (0 ∷ E ∷ hours_cuts (rota_of s).hours) b m → m ≤ 66
    eras-few p = omega (arith, p.most, hours_cuts-length (rota_of s).hours, (accepted-well s ok).hours-most)

    pub eras-cut : Added a 0 (0 ∷ E ∷ hours_cuts (rota_of s).hours) b m → 66 ≤ length b → Cuts (era_cuts (rota_of s)) b (m - 1) E
    unfolding era_cuts
    eras-cut p l = added-cuts E p (era-values (rota_of s) (accepted-well s ok)) (omega arith) (omega (arith, eras-few p))

    module _ {c : ℕ} (p : Added a 0 (0 ∷ c ∷ pairs_cuts (rota_of s).hours) b m) where
      pub cells-few : m ≤ 514
      cells-few = omega (arith, p.most, pairs_cuts-length (rota_of s).hours, (accepted-well s ok).pairs-most)

      pub cells_cut : c ≡ cycle_of s → 514 ≤ length b → Cuts (cell_cuts (rota_of s)) b (m - 1) (cycle_of s)
      unfolding cell_cuts rota_of
      cells_cut e l = added-cuts (cycle_of s) (rw e at p) (cell-values (rota_of s) (accepted-well s ok)) (omega arith) (omega (arith, cells-few))

  pub divided : {a a' b b' : List ℕ} {m n c : ℕ} → c ≡ cycle_of s → Added a 0 (0 ∷ E ∷ hours_cuts (rota_of s).hours) b m → 66 ≤ length b
      → Added a' 0 (0 ∷ c ∷ pairs_cuts (rota_of s).hours) b' n → 514 ≤ length b'
      → Divided s (record { eras = b; era_count = m - 1; cells = b'; cell_count = n - 1 })
  divided e p l q k =
      record {
        few-eras = omega (arith, eras-few p);
        few-cells = omega (arith, cells-few q);
        era-cuts = eras-cut p l;
        cell_cuts = cells_cut q e k;
      }

-- 65 eras by 513 cells are the most
pub fields-few : {s eras : List ℕ} {ne : ℕ} {cells : List ℕ} {nc : ℕ} → Parted s eras ne cells nc → ne * nc ≤ 33345
fields-few {nc = nc} w = omega (arith, mul-le-mul_right nc w.few-eras, w.few-cells)
