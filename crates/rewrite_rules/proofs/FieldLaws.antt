-- The fields of a rota.
--     ends, wide, fits               a field ends by E; its cell is not empty and ends by C
--     field_alike                    no hours tell two minutes of a field apart
--     field-find, field-unique       every minute lies in one field, and in no other
--     fields-distinct, field-count   no field is there twice, so that just one of the list covers a minute
-- Assumes nothing.
use Rattle.ground.specs.Believed.Search.{count_of}
use Rattle.ground.proofs.ListLaws.{all_in}
use Prim.Native.Nat.{ℕ, ◌+◌, ◌-◌, ◌%◌, ◌≤◌, ◌<◌, zero-le}
use mathlib.Core.Path.{◌≡◌, refl, sym, ap, ap₂, ◌∙◌}
use mathlib.Core.Logic.{⊎_elim}
use mathlib.Core.Bool.{true}
use mathlib.Core.List.Memᴰ
use mathlib.Core.List.{List, [], ◌∷◌, map, Memᴰ}
use native.Mathlib.Nat.{mod-lt}
use native.Mathlib.Omega.{arith}
use Rattle.minutes.specs.Believed.Minutes.{E, Window, covers}
use Rattle.minutes.proofs.WindowLaws.{In, covers-in, in-covers}
use Rattle.rota.specs.Believed.Rota.{Rota}
use Rattle.rota.specs.RotaWell.{RotaWell}
use Rattle.rota.specs.Alike.{Alike}
use Rattle.rewrite_rules.specs.Believed.Cuts.{Gap, gaps}
use Rattle.rewrite_rules.specs.Believed.Rewriting.{era_cuts, cell_cuts, field_of, fields_of, fields}
use Rattle.rewrite_rules.proofs.TableFields.{FieldWell, fields-well}
use Rattle.rewrite_rules.proofs.CutLaws.{Inside, ordered, find, unique, once}
use Rattle.rewrite_rules.proofs.DistinctLaws.{Distinct, distinct_append, distinct-map}
use Rattle.rewrite_rules.proofs.CountingLaws.{count-exactly}
use Rattle.rewrite_rules.proofs.ConstancyLaws.{alike}

-- ---- eras with cells

fields_in : (es cs : List Gap) (e c : Gap) → Memᴰ e es → Memᴰ c cs → Memᴰ (field_of e c) (fields_of es cs)
unfolding fields_of
fields_in [] cs e c m n = absurd (Memᴰ.not-nil m)
fields_in (x ∷ es) cs e c m n =
    ⊎_elim
    (λ p. Memᴰ.append_left (fields_of es cs) (Memᴰ.cast (ap (λ (z : Gap). field_of z c) p) (Memᴰ.map (field_of x) n)))
    (λ k. Memᴰ.append_right (map (field_of x) cs) (fields_in es cs e c k n))
    (Memᴰ.cases_cons m)

record FieldFrom (es cs : List Gap) (f : Window) : Type 0 where
  era : Gap
  cell : Gap
  era-in : Memᴰ era es
  cell_in : Memᴰ cell cs
  is : field_of era cell ≡ f

fields_out : (es cs : List Gap) (f : Window) → Memᴰ f (fields_of es cs) → FieldFrom es cs f
unfolding fields_of
fields_out [] cs f m = absurd (Memᴰ.not-nil m)
fields_out (x ∷ es) cs f m =
    ⊎_elim (λ k. first (Memᴰ.of_map (field_of x) cs k)) (λ k. later (fields_out es cs f k)) (Memᴰ.append_cases (map (field_of x) cs) m)
  where
    first : (c : Gap) × Memᴰ c cs × (field_of x c ≡ f) → FieldFrom (x ∷ es) cs f
    first r = record { era = x; cell = r.0; era-in = Memᴰ.head refl; cell_in = r.1; is = r.2 }

    later : FieldFrom es cs f → FieldFrom (x ∷ es) cs f
    later r = record { era = r.era; cell = r.cell; era-in = Memᴰ.tail r.era-in; cell_in = r.cell_in; is = r.is }

era-of : (e g : Gap) (c d : Gap) → field_of e c ≡ field_of g d → e ≡ g
era-of e g c d q =
    let p₁ : e.low ≡ g.low = ap (λ (z : Window). z.begin) q in
    let p₂ : e.high ≡ g.high = ap (λ (z : Window). z.end) q in
    λ i. record { low = p₁ i; high = p₂ i }

cell-of : (e c d : Gap) → c.low < c.high → d.low < d.high → field_of e c ≡ field_of e d → c ≡ d
cell-of e c d h k q =
    let p₁ : c.low ≡ d.low = ap (λ (z : Window). z.offset) q in
    let p₂ : c.high - c.low ≡ d.high - d.low = ap (λ (z : Window). z.length) q in
    let p₃ : c.high ≡ d.high = omega arith in
    λ i. record { low = p₁ i; high = p₃ i }

fields-once : (es cs : List Gap) → ((c : Gap) → Memᴰ c cs → c.low < c.high) → Distinct es → Distinct cs → Distinct (fields_of es cs)
unfolding fields_of
fields-once [] cs h d n = tt
fields-once (e ∷ es) cs h d n =
    distinct_append (map (field_of e) cs) (fields_of es cs)
    (distinct-map (field_of e) cs (λ c b m k q. cell-of e c b (h c m) (h b k) q) n)
    (fields-once es cs h d.1 n)
    (λ f m k.
    let z = Memᴰ.of_map (field_of e) cs m in
    let r : FieldFrom es cs f = fields_out es cs f k in
    d.0 (Memᴰ.cast (era-of e r.era z.0 r.cell (z.2 ∙ sym r.is)) r.era-in))

-- ---- fields

module _ (ρ : Rota) (w : RotaWell ρ) where
  -- the two gaps behind a field
  record Parts (f : Window) : Type 0 where
    era : Gap
    cell : Gap
    era-in : Memᴰ era (gaps (era_cuts ρ))
    cell_in : Memᴰ cell (gaps (cell_cuts ρ))
    is : field_of era cell ≡ f
    begin-is : f.begin ≡ era.low
    end_is : f.end ≡ era.high
    left_is : f.offset ≡ cell.low
    right_is : f.offset + f.length ≡ cell.high

  parts : (f : Window) → Memᴰ f (fields ρ) → Parts f
  unfolding fields era_cuts cell_cuts
  parts f m =
      let r : FieldFrom (gaps (era_cuts ρ)) (gaps (cell_cuts ρ)) f = fields_out _ _ f m in
      let o : r.cell.low < r.cell.high = ordered _ r.cell r.cell_in in
      let p₁ : r.cell.low ≡ f.offset = ap (λ (z : Window). z.offset) r.is in
      let p₂ : r.cell.high - r.cell.low ≡ f.length = ap (λ (z : Window). z.length) r.is in
      record {
        era = r.era;
        cell = r.cell;
        era-in = r.era-in;
        cell_in = r.cell_in;
        is = r.is;
        begin-is = ap (λ (z : Window). z.begin) (sym r.is);
        end_is = ap (λ (z : Window). z.end) (sym r.is);
        left_is = sym p₁;
        right_is = omega arith;
      }

  module _ {f : Window} (m : Memᴰ f (fields ρ)) where
    well : FieldWell ρ.cycle f
    well = all_in (FieldWell ρ.cycle) (fields ρ) (fields-well ρ w) m

    pub ends : f.end ≤ E
    ends = well.ends

    pub wide : f.offset < f.offset + f.length
    wide = omega (arith, well.some-length)

    pub fits : f.offset + f.length ≤ ρ.cycle
    fits = well.in-cycle

    in-era : {t : ℕ} → In ρ.cycle f t → Inside (parts f m).era t
    in-era h = let q : Parts f = parts f m in (omega arith, omega arith)

    in_cell : {t : ℕ} → In ρ.cycle f t → Inside (parts f m).cell (t % ρ.cycle)
    in_cell h = let q : Parts f = parts f m in (omega arith, omega arith)

    pub field_alike : (s t : ℕ) → covers ρ.cycle f s ≡ true → covers ρ.cycle f t ≡ true → Alike ρ s t
    field_alike s t a b =
        let q : Parts f = parts f m in
        alike ρ q.era q.cell q.era-in q.cell_in s t (in-era (covers-in a)) (in-era (covers-in b)) (in_cell (covers-in a)) (in_cell (covers-in b))

  pub field-find : (t : ℕ) → t < E → (f : Window) × Memᴰ f (fields ρ) × (covers ρ.cycle f t ≡ true)
  unfolding fields era_cuts cell_cuts
  field-find t h =
      let e : (g : Gap) × Memᴰ g (gaps (era_cuts ρ)) × Inside g t
      = find _ 0 E t (Memᴰ.head refl) zero-le (Memᴰ.tail (Memᴰ.head refl)) h in
      let c : (g : Gap) × Memᴰ g (gaps (cell_cuts ρ)) × Inside g (t % ρ.cycle)
      = find _ 0 ρ.cycle (t % ρ.cycle) (Memᴰ.head refl) zero-le (Memᴰ.tail (Memᴰ.head refl)) (mod-lt t w.cycle-some) in (
        field_of e.0 c.0,
        fields_in (gaps (era_cuts ρ)) (gaps (cell_cuts ρ)) e.0 c.0 e.1 c.1,
        in-covers (record { from = e.2.0; to = e.2.1; left = c.2.0; right = omega (arith, c.2.0, c.2.1) }),
      )

  pub field-unique : (f g : Window) (t : ℕ) → Memᴰ f (fields ρ) → Memᴰ g (fields ρ) → covers ρ.cycle f t ≡ true
      → covers ρ.cycle g t ≡ true → f ≡ g
  unfolding era_cuts cell_cuts
  field-unique f g t m n a b =
      let p : Parts f = parts f m in
      let q : Parts g = parts g n in
      let era : p.era ≡ q.era = unique _ _ _ t p.era-in q.era-in (in-era m (covers-in a)) (in-era n (covers-in b)) in
      let cell : p.cell ≡ q.cell = unique _ _ _ (t % ρ.cycle) p.cell_in q.cell_in (in_cell m (covers-in a)) (in_cell n (covers-in b)) in
      sym p.is ∙ ap₂ field_of era cell ∙ q.is

  pub fields-distinct : Distinct (fields ρ)
  unfolding fields era_cuts cell_cuts
  fields-distinct = fields-once _ _ (ordered _) (once _) (once _)

  pub field-count : (t : ℕ) → t < E → count_of (λ (f : Window). covers ρ.cycle f t) (fields ρ) ≡ 1
  field-count t h =
      let z = field-find t h in
      count-exactly _ (fields ρ) fields-distinct z.0 z.1 z.2 (λ f m k. field-unique f z.0 t m z.1 k z.2)
