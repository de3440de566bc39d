-- The fields of an era by stretches: what is left, numbered from where the loop stands, is the whole.
--     Alike                                               fields with the mask of the first of them
--     Numbering, numbering-turn, numbering-laid, numbering-masks    the loop over the stretches
--     places-same, places-then                            the arrays of the masks
-- Assumes nothing.
use Prim.Native.Nat.{ℕ, ◌+◌, ◌≤◌, ◌<◌}
use mathlib.Core.Path.{◌≡◌, refl, sym, ◌∙◌, ap, ap₂}
use mathlib.Core.Logic.{⊎_elim}
use mathlib.Core.List.{List, [], ◌++◌, append_assoc, append-nil}
use native.Mathlib.Omega.{arith}
use lib.ListN.{length, get_or, take, drop, set, replicate, take-append-drop}
use lib.Seq.{drop-drop, drop-length, get_or-set_same, get_or-set_other}
use Rattle.ground.proofs.BoolLaws.{lt-or-le}
use Rattle.rewrite_rules.specs.Kinds.{add_mask, masks_from, kind_of, kinds_from, masks_in}
use Rattle.rewrite_grid.specs.Stretches.{field_kinds}
use Rattle.rewrite_grid.proofs.StretchLaws.{kinds-stored}
use Rattle.rewrite_masks.specs.Kinds.{HeldBy, SamePlaces, Found, Laid}
use Rattle.rewrite_masks.specs.declared.Masks.{Masks}
use Rattle.rewrite_masks.proofs.KeyLaws.{masks-stretch, kinds-stretch}

-- ---- fields with one mask

module _ (row : List ℕ) (c : ℕ) where
  -- the l fields from c on have the mask of c
  abbrev pub Alike : ℕ → Type 0
  Alike l = take l (drop c row) ≡ replicate l (get_or row c 0)

-- what is left begins with them
left_is : (row : List ℕ) (c l : ℕ) → Alike row c l → drop c row ≡ replicate l (get_or row c 0) ++ drop (c + l) row
left_is row c l a = sym (take-append-drop l (drop c row)) ∙ ap₂ ◌++◌ a (drop-drop l c row)

-- ---- the loop over the stretches

pub record Numbering (row kinds₀ lens₀ : List ℕ) (first : ℕ) (m₀ : Masks) (kinds lens : List ℕ) (m : Masks) (j c : ℕ) : Type 0 where
  pub within : c ≤ length row
  pub kinds-so : field_kinds kinds lens j ++ kinds_from (masks_in m.sets.now m.count) (drop c row) ≡ field_kinds kinds₀ lens₀ first ++ kinds_from (masks_in m₀.sets.now m₀.count) row
  pub masks-so : masks_from (masks_in m.sets.now m.count) (drop c row) ≡ masks_from (masks_in m₀.sets.now m₀.count) row
  pub held : HeldBy m
  pub some : (i : ℕ) → first ≤ i → i < j → 0 < get_or lens i 0
  pub same-kinds : (i : ℕ) → i < first → get_or kinds i 0 ≡ get_or kinds₀ i 0
  pub same-lens : (i : ℕ) → i < first → get_or lens i 0 ≡ get_or lens₀ i 0
  pub least : first ≤ j
  pub place : j ≤ first + c
  pub most : m.count ≤ m₀.count + c
  pub same : SamePlaces m₀ m

pub places-same : (m : Masks) → SamePlaces m m
places-same m = record { sets = refl; links = refl; sets-long = refl; links-long = refl; trees = refl }

pub places-then : {m n o : Masks} → SamePlaces m n → SamePlaces n o → SamePlaces m o
places-then p q =
    record {
      sets = q.sets ∙ p.sets;
      links = q.links ∙ p.links;
      sets-long = q.sets-long ∙ p.sets-long;
      links-long = q.links-long ∙ p.links-long;
      trees = q.trees ∙ p.trees;
    }

module _ {row kinds₀ lens₀ : List ℕ} {first : ℕ} {m₀ : Masks} {kinds lens : List ℕ} {m : Masks} {j c : ℕ} (s : Numbering row kinds₀ lens₀ first m₀ kinds lens m j c) where
  pub numbering-turn : (m' : Masks) (l k : ℕ) → c < length row → 0 < l → c + l ≤ length row → Alike row c l → Found (get_or row c 0) m.count m.sets.now m'.sets.now k m'.count
      → HeldBy m' → SamePlaces m m' → j < length kinds → j < length lens
      → Numbering row kinds₀ lens₀ first m₀ (set kinds j k) (set lens j l) m' (j + 1) (c + l)
  numbering-turn m' l k h pos in_row alike f held same lk ll =
      record {
        within = in_row;
        kinds-so = kinds-turn ∙ s.kinds-so;
        masks-so = masks-turn ∙ s.masks-so;
        held = held;
        some = λ i a b. ⊎_elim (earlier i a) (λ (q : j ≤ i). here i (omega arith)) (lt-or-le i j);
        same-kinds = λ i a. get_or-set_other kinds j i k 0 (λ e. omega (arith, s.least)) ∙ s.same-kinds i a;
        same-lens = λ i a. get_or-set_other lens j i l 0 (λ e. omega (arith, s.least)) ∙ s.same-lens i a;
        least = omega (arith, s.least);
        place = omega (arith, s.place);
        most = omega (arith, f.most, s.most);
        same = places-then s.same same;
      }
    where
      x : ℕ
      x = get_or row c 0

      rest : List ℕ
      rest = drop (c + l) row

      left : drop c row ≡ replicate l x ++ rest
      left = left_is row c l alike

      earlier : (i : ℕ) → first ≤ i → i < j → 0 < get_or (set lens j l) i 0
      earlier i a b = rw (get_or-set_other lens j i l 0 (λ e. omega arith)) (s.some i a b)

      here : (i : ℕ) → i ≡ j → 0 < get_or (set lens j l) i 0
      here i e = rw e (rw (get_or-set_same lens j l 0 ll) pos)

      masks-turn : masks_from (masks_in m'.sets.now m'.count) rest ≡ masks_from (masks_in m.sets.now m.count) (drop c row)
      masks-turn =
          ap (λ (ds : List ℕ). masks_from ds rest) f.masks-then
          ∙ sym (ap (masks_from (masks_in m.sets.now m.count)) left ∙ masks-stretch (masks_in m.sets.now m.count) x rest l pos)

      kinds-turn : field_kinds (set kinds j k) (set lens j l) (j + 1) ++ kinds_from (masks_in m'.sets.now m'.count) rest
          ≡ field_kinds kinds lens j ++ kinds_from (masks_in m.sets.now m.count) (drop c row)
      kinds-turn =
          ap₂ ◌++◌ (kinds-stored kinds lens j k l lk ll ∙ ap (λ (y : ℕ). field_kinds kinds lens j ++ replicate l y) f.kind-is)
          (ap (λ (ds : List ℕ). kinds_from ds rest) f.masks-then)
          ∙ append_assoc (field_kinds kinds lens j) (replicate l (kind_of (masks_in m.sets.now m.count) x)) (kinds_from (add_mask (masks_in m.sets.now m.count) x) rest)
          ∙ ap (λ (q : List ℕ). field_kinds kinds lens j ++ q)
          (sym (ap (kinds_from (masks_in m.sets.now m.count)) left ∙ kinds-stretch (masks_in m.sets.now m.count) x rest l pos))

  module _ (h : length row ≤ c) where
    none : drop c row ≡ []
    none = let e : c ≡ length row = omega (arith, s.within) in ap (λ (i : ℕ). drop i row) e ∙ drop-length row

    pub numbering-laid : Laid (masks_in m₀.sets.now m₀.count) row first j kinds₀ lens₀ kinds lens
    numbering-laid =
        record {
          kinds-are =
              sym (append-nil (field_kinds kinds lens j))
              ∙ ap (λ (q : List ℕ). field_kinds kinds lens j ++ q) (sym (ap (kinds_from (masks_in m.sets.now m.count)) none ∙ (unfold kinds_from in refl))) ∙ s.kinds-so;
          some = s.some;
          same-kinds = s.same-kinds;
          same-lens = s.same-lens;
          least = s.least;
          most = omega (arith, s.place, s.within);
        }

    pub numbering-masks : masks_in m.sets.now m.count ≡ masks_from (masks_in m₀.sets.now m₀.count) row
    numbering-masks = sym (ap (masks_from (masks_in m.sets.now m.count)) none ∙ (unfold masks_from in refl)) ∙ s.masks-so
