-- The loop over the eras: the stretches and the distinct masks of the fields of the eras passed.
--     passed_none, passed-more, passed-all    at the start, after one era more, and at the end
--     end-room                                there is room for the stretches of the next era
-- Assumes nothing.
use Prim.Native.Nat.{ℕ, ◌+◌, ◌*◌, ◌≤◌, ◌<◌}
use mathlib.Core.Path.{◌≡◌, refl, sym, ◌∙◌, ap, ap₂}
use mathlib.Core.Logic.{⊎_elim}
use mathlib.Core.List.{List, [], ◌∷◌, ◌++◌}
use native.Mathlib.Nat.{le_antisymm, mul-le-mul_right}
use native.Mathlib.Omega.{arith}
use lib.ListN.{length, get_or, set, length-append, length-set}
use lib.Seq.{get_or-set_same, get_or-set_other}
use Rattle.ground.specs.Believed.Sequence.{list_of}
use Rattle.ground.proofs.BoolLaws.{lt-or-le}
use Rattle.ground.proofs.SequenceLaws.{list_of-length}
use Rattle.rewrite_rules.specs.Kinds.{add_mask, masks_from, kind_of, kinds_from, masks_in}
use Rattle.rewrite_rules.proofs.KindLaws.{kinds-length}
use Rattle.hours.specs.Inside.{dates_hold, records_that}
use Rattle.rota.specs.Believed.RotaBytes.{header_length}
use Rattle.rewrite_grid.specs.Grid.{mask_in, masks_to, Ready}
use Rattle.rewrite_grid.specs.Stretches.{field_kinds, Stretched}
use Rattle.rewrite_grid.proofs.LaidLaws.{masks-none, masks-more, masks-all}
use Rattle.rewrite_grid.proofs.StretchLaws.{kinds-none, kinds-same, ends-rise}
use Rattle.rewrite_masks.specs.Kinds.{masks_of, HeldBy, SamePlaces, Laid, Numbered}
use Rattle.rewrite_masks.specs.declared.Masks.{Masks}
use Rattle.rewrite_masks.proofs.RowLaws.{places-same, places-then}

masks-append : (ds ms ns : List ℕ) → masks_from ds (ms ++ ns) ≡ masks_from (masks_from ds ms) ns
unfolding masks_from
masks-append ds [] ns = refl
masks-append ds (m ∷ ms) ns = masks-append (add_mask ds m) ms ns

kinds-append : (ds ms ns : List ℕ) → kinds_from ds (ms ++ ns) ≡ kinds_from ds ms ++ kinds_from (masks_from ds ms) ns
unfolding masks_from kinds_from
kinds-append ds [] ns = refl
kinds-append ds (m ∷ ms) ns = ap (λ (l : List ℕ). kind_of ds m ∷ l) (kinds-append (add_mask ds m) ms ns)

-- ---- the stretches of no era, and of one more

stretched-none : (nc : ℕ) (kinds lens ends : List ℕ) → 0 < length ends → get_or ends 0 0 ≡ 0 → Stretched 0 nc kinds lens ends
stretched-none nc kinds lens ends l e =
    record {
      long-kinds = omega arith;
      long-lens = omega arith;
      long-ends = l;
      first = e;
      rise = λ k h. absurd (omega arith);
      some = λ j h. absurd (omega arith);
      whole = λ k h. let q : k ≡ 0 = omega arith in rw q (rw e (omega (arith, ap length (kinds-none kinds lens))));
    }

module _ {i nc : ℕ} {kinds lens ends : List ℕ} (s : Stretched i nc kinds lens ends) {ds row : List ℕ} {end : ℕ} (kinds' lens' : List ℕ)
    (laid : Laid ds row (get_or ends i 0) end kinds lens kinds' lens') where
  stretched-more : length row ≡ nc → end ≤ length kinds' → end ≤ length lens' → i + 1 < length ends
      → Stretched (i + 1) nc kinds' lens' (set ends (i + 1) end)
  stretched-more lr lk ll le =
      record {
        long-kinds = rw here lk;
        long-lens = rw here ll;
        long-ends = simp length-set le;
        first = before 0 (omega arith) ∙ s.first;
        rise = λ e h. ⊎_elim (rises e) (λ (q : i ≤ e). last e (omega arith)) (lt-or-le e i);
        some = λ j h. ⊎_elim (early j) (λ (q : get_or ends i 0 ≤ j). laid.some j q (rw here at h)) (lt-or-le j (get_or ends i 0));
        whole = λ e h. ⊎_elim (λ (q : e < i + 1). earlier e (omega arith)) (λ (q : i + 1 ≤ e). all e (omega arith)) (lt-or-le e (i + 1));
      }
    where
      here : get_or (set ends (i + 1) end) (i + 1) 0 ≡ end
      here = get_or-set_same ends (i + 1) end 0 le

      before : (e : ℕ) → e ≤ i → get_or (set ends (i + 1) end) e 0 ≡ get_or ends e 0
      before e h = get_or-set_other ends (i + 1) e end 0 (λ q. omega arith)

      rises : (e : ℕ) → e < i → get_or (set ends (i + 1) end) e 0 ≤ get_or (set ends (i + 1) end) (e + 1) 0
      rises e h = omega (arith, before e (omega arith), before (e + 1) (omega arith), s.rise e h)

      last : (e : ℕ) → e ≡ i → get_or (set ends (i + 1) end) e 0 ≤ get_or (set ends (i + 1) end) (e + 1) 0
      last e q = rw q (omega (arith, before i (omega arith), here, laid.least))

      early : (j : ℕ) → j < get_or ends i 0 → 0 < get_or lens' j 0
      early j h = rw (laid.same-lens j h) (s.some j h)

      earlier : (e : ℕ) → e ≤ i → length (field_kinds kinds' lens' (get_or (set ends (i + 1) end) e 0)) ≡ e * nc
      earlier e h =
          ap (λ (k : ℕ). length (field_kinds kinds' lens' k)) (before e h)
          ∙ ap length
          (kinds-same kinds lens kinds' lens' (get_or ends e 0) (λ j l. laid.same-kinds j (omega (arith, ends-rise ends _ s.rise e i h (omega arith))))
          (λ j l. laid.same-lens j (omega (arith, ends-rise ends _ s.rise e i h (omega arith)))))
          ∙ s.whole e h

      all : (e : ℕ) → e ≡ i + 1 → length (field_kinds kinds' lens' (get_or (set ends (i + 1) end) e 0)) ≡ e * nc
      all e q =
          rw q
          (ap (λ (k : ℕ). length (field_kinds kinds' lens' k)) here ∙ ap length laid.kinds-are ∙ length-append (field_kinds kinds lens (get_or ends i 0)) (kinds_from ds row)
          ∙ ap₂ (λ (a b : ℕ). a + b) (s.whole i (omega arith)) (kinds-length ds row ∙ lr) ∙ omega arith)

-- ---- the loop

pub record Passed (s eras : List ℕ) (ne nc : ℕ) (kinds lens ends : List ℕ) (m₀ m : Masks) (i first : ℕ) : Type 0 where
  pub below : i ≤ ne
  pub stretched : Stretched i nc kinds lens ends
  pub place : first ≡ get_or ends i 0
  pub early : first ≤ i * nc
  pub kinds-so : field_kinds kinds lens first ≡ kinds_from [] (masks_to s eras i)
  pub masks-so : masks_in m.sets.now m.count ≡ masks_from [] (masks_to s eras i)
  pub held : HeldBy m
  pub most : m.count ≤ i * nc
  pub same : SamePlaces m₀ m

pub passed_none : (s eras : List ℕ) (ne nc : ℕ) (kinds lens ends : List ℕ) (m : Masks) → 0 < length ends → HeldBy m → m.count ≡ 0
    → Passed s eras ne nc kinds lens (set ends 0 0) m m 0 0
unfolding kinds_from masks_from masks_in
passed_none s eras ne nc kinds lens ends m l h e0 =
    let e : get_or (set ends 0 0) 0 0 ≡ 0 = get_or-set_same ends 0 0 0 l in
    record {
      below = omega arith;
      stretched = stretched-none nc kinds lens (set ends 0 0) (simp length-set l) e;
      place = sym e;
      early = omega arith;
      kinds-so = kinds-none kinds lens ∙ sym (ap (kinds_from []) (masks-none s eras));
      masks-so = rw (masks-none s eras, e0) refl;
      held = h;
      most = omega arith;
      same = places-same m;
    }

module _ {s eras : List ℕ} {ne nc : ℕ} {kinds lens ends : List ℕ} {m₀ m : Masks} {i first : ℕ} (p : Passed s eras ne nc kinds lens ends m₀ m i first) where
  next_place : i < ne → i * nc + nc ≤ ne * nc
  next_place h = omega (arith, mul-le-mul_right nc h)

  -- where the next stretches end is in an array that was long enough
  pub end-room : {end long₀ long long' : ℕ} → i < ne → end ≤ first + nc → ne * nc ≤ long₀ → long ≡ long₀ → long' ≡ long → end ≤ long'
  end-room h e r l l' = omega (arith, p.early, next_place h)

  module _ {cycle from h : ℕ} {cells held : List ℕ} (ready : Ready s cycle from h eras ne cells nc held) where
    pub passed-more : {dates : ℕ} {row : List ℕ} (kinds' lens' : List ℕ) (m' : Masks) (end : ℕ) → i < ne → dates ≡ records_that s (header_length s) h (dates_hold (get_or eras i 0))
        → row ≡ list_of nc (mask_in cycle dates (get_or eras i 0) (get_or eras (i + 1) 0) cells held) → Laid (masks_in m.sets.now m.count) row first end kinds lens kinds' lens'
        → masks_in m'.sets.now m'.count ≡ masks_from (masks_in m.sets.now m.count) row → HeldBy m' → m'.count ≤ m.count + length row → SamePlaces m m'
        → end ≤ length kinds' → end ≤ length lens' → i + 1 < length ends
        → Passed s eras ne nc kinds' lens' (set ends (i + 1) end) m₀ m' (i + 1) end
    passed-more {dates} {row} kinds' lens' m' end hi ed er laid em held' few same lk ll le =
        record {
          below = omega arith;
          stretched = stretched-more p.stretched kinds' lens' (rw p.place at laid) long lk ll le;
          place = sym (get_or-set_same ends (i + 1) end 0 le);
          early = omega (arith, p.early, laid.most, long);
          kinds-so = laid.kinds-are ∙ ap₂ ◌++◌ p.kinds-so (ap₂ kinds_from p.masks-so er) ∙ sym (kinds-append [] (masks_to s eras i) masks) ∙ ap (kinds_from []) (sym more);
          masks-so = em ∙ ap₂ masks_from p.masks-so er ∙ sym (masks-append [] (masks_to s eras i) masks) ∙ ap (masks_from []) (sym more);
          held = held';
          most = omega (arith, p.most, long);
          same = places-then p.same same;
        }
      where
        masks : List ℕ
        masks = list_of nc (mask_in cycle dates (get_or eras i 0) (get_or eras (i + 1) 0) cells held)

        long : length row ≡ nc
        long = ap length er ∙ list_of-length nc _

        more : masks_to s eras (i + 1) ≡ masks_to s eras i ++ masks
        more = masks-more s ready.accepted eras cells ne nc ready.era-cuts ready.cell_cuts i hi ready.cycle-is ready.hours-are ed ready.in_cells

    pub passed-all : ne ≤ i → Numbered s ne nc m.count kinds lens ends m.sets.now
    unfolding masks_of
    passed-all h =
        let q : i ≡ ne = le_antisymm p.below h in
        let all = masks-all s ready.accepted eras cells ne nc ready.era-cuts ready.cell_cuts i p.below h in
        record {
          few = rw (← q) p.most;
          stretched = rw (← q) p.stretched;
          kinds-are = ap (field_kinds kinds lens) (ap (λ (k : ℕ). get_or ends k 0) (sym q) ∙ sym p.place) ∙ p.kinds-so ∙ ap (kinds_from []) all;
          sets-are = p.masks-so ∙ ap (masks_from []) all;
        }
