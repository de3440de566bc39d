-- Fields by kind: the distinct masks give the derived roles that all masks give, and the mark of each field is that of its kind. Mask 0 gives nothing.
--     derived-kinds, marks-kinds              for any function from masks to what a field with one gives
--     marks-are                               each mark is the place of its derived role among all of them
--     kinds-length, kinds-most, masks-most    how many kinds and masks, and that each kind names a mask or none
--     map_at                                  what a function gives for the element at an index
-- Assumes nothing.
use Prim.Native.Nat.{ℕ, zero, suc, ◌+◌, ◌≤◌, ◌<◌}
use mathlib.Core.Path.{◌≡◌, refl, sym, ap, ap₂, ◌∙◌, subst}
use mathlib.Core.Logic.{⊎_elim}
use mathlib.Core.Bool.{Bool, true, false}
use Rattle.std.proofs.Common.{Option, None, Some}
use mathlib.Core.List.{List, [], ◌∷◌, ◌++◌, map}
use native.Mathlib.Omega.{arith}
use borrow.Author.Tests.{eqb-true, eqb-false, eq-eqb}
use lib.Dec.{eqb}
use lib.ListN.{length, get_or}
use Rattle.ground.specs.Believed.Choice.{pick}
use Rattle.ground.specs.Believed.Search.{any}
use Rattle.ground.specs.Believed.Sequence.{All}
use Rattle.ground.proofs.BoolLaws.{clash, or_yes}
use Rattle.ground.proofs.ListLaws.{all-with, map_same}
use Rattle.table.specs.Believed.Table.{Entry}
use Rattle.rewrite_rules.specs.Believed.Distinct.{add_new, add_all, place_of}
use Rattle.rewrite_rules.specs.Kinds.{add_mask, masks_from, kind_of, kinds_from, by_kind}
use Rattle.rewrite_rules.specs.Believed.Rewriting.{same}
use Rattle.rewrite_rules.specs.Roles.{next_entries, mark_of, derived_from, marks_from}
use Rattle.rewrite_rules.proofs.TableDistinct.{there, place-below, place_is, add-cases, add-found, add-length, add-there, place-add, add_all-keeps, place-stays}
use Rattle.rewrite_rules.proofs.TableKept.{same_self}

-- ---- masks and kinds

by_zero {ℓ} : (P : Bool → Type ℓ) (m : ℕ) → (m ≡ 0 → P true) → ((m ≡ 0 → ⊥) → P false) → P (eqb m 0)
by_zero P m f g = go (eqb m 0) refl
  where
    go : (b : Bool) → eqb m 0 ≡ b → P b
    go true e = f (eqb-true m 0 e)
    go false e = g (eqb-false m 0 e)

-- a mask adds nothing where it is 0
mask-cases {ℓ} : (P : List ℕ → Type ℓ) (ds : List ℕ) (m : ℕ) → (m ≡ 0 → P ds) → ((m ≡ 0 → ⊥) → P (add_new eqb ds m)) → P (add_mask ds m)
mask-cases P ds m = by_zero (λ (b : Bool). P (pick b ds (add_new eqb ds m))) m

mask-length : (ds : List ℕ) (m : ℕ) → (length ds ≤ length (add_mask ds m)) × (length (add_mask ds m) ≤ suc (length ds))
mask-length ds m = mask-cases (λ (q : List ℕ). (length ds ≤ length q) × (length q ≤ suc (length ds))) ds m (λ e. (omega arith, omega arith)) (λ e. add-length eqb ds m)

-- a mask that is there stays, at its place
abbrev Stays : ℕ → List ℕ → List ℕ → Type 0
Stays x ds l = (there eqb x l ≡ true) × (place_of eqb x l ≡ place_of eqb x ds)

mask-stays : (x : ℕ) (ds : List ℕ) (m : ℕ) → there eqb x ds ≡ true → Stays x ds (add_mask ds m)
unfolding add_all
mask-stays x ds m h = mask-cases (Stays x ds) ds m (λ e. (h, refl)) (λ e. (add_all-keeps eqb x ds (m ∷ []) h, place-stays eqb x ds (m ∷ []) h))

masks-stay : (x : ℕ) (ds ms : List ℕ) → there eqb x ds ≡ true → Stays x ds (masks_from ds ms)
unfolding masks_from
masks-stay x ds [] h = (h, refl)
masks-stay x ds (m ∷ ms) h =
    let s = mask-stays x ds m h in
    let r = masks-stay x (add_mask ds m) ms s.0 in
    (r.0, r.1 ∙ s.1)

-- a mask that is not 0 is there once it is added, where it was looked for
mask-there : (ds : List ℕ) (m : ℕ) → (m ≡ 0 → ⊥) → Stays m ds (add_mask ds m)
mask-there ds m h =
    mask-cases (Stays m ds) ds m (λ e. absurd (h e)) (λ e. (add-there eqb (λ x. eq-eqb x x refl) ds m, place-add eqb (λ x. eq-eqb x x refl) ds m))

masks-there : (ds : List ℕ) (m : ℕ) (ms : List ℕ) → (m ≡ 0 → ⊥) → Stays m ds (masks_from (add_mask ds m) ms)
masks-there ds m ms h =
    let s = mask-there ds m h in
    let r = masks-stay m (add_mask ds m) ms s.0 in
    (r.0, r.1 ∙ s.1)

-- a kind is that among all distinct masks
kind-stays : (ds : List ℕ) (m : ℕ) (ms : List ℕ) → kind_of ds m ≡ kind_of (masks_from (add_mask ds m) ms) m
kind-stays ds m ms =
    by_zero (λ (b : Bool). pick b 0 (suc (place_of eqb m ds)) ≡ pick b 0 (suc (place_of eqb m (masks_from (add_mask ds m) ms)))) m (λ e. refl)
    (λ h. ap suc (sym (masks-there ds m ms h).1))

kinds-are : (f : ℕ → ℕ) (ds ms : List ℕ) → map f (kinds_from ds ms) ≡ map (λ (m : ℕ). f (kind_of (masks_from ds ms) m)) ms
unfolding masks_from kinds_from
kinds-are f ds [] = refl
kinds-are f ds (m ∷ ms) = ap₂ ◌∷◌ (ap f (kind-stays ds m ms)) (kinds-are f (add_mask ds m) ms)

all_there : (ds ms : List ℕ) → All (λ (m : ℕ). (m ≡ 0 → ⊥) → there eqb m (masks_from ds ms) ≡ true) ms
unfolding masks_from
all_there ds [] = tt
all_there ds (m ∷ ms) = (λ h. (masks-there ds m ms h).0, all_there (add_mask ds m) ms)

pub kinds-length : (ds ms : List ℕ) → length (kinds_from ds ms) ≡ length ms
unfolding kinds_from
kinds-length ds [] = refl
kinds-length ds (m ∷ ms) = ap suc (kinds-length (add_mask ds m) ms)

pub masks-most : (ds ms : List ℕ) → length (masks_from ds ms) ≤ length ds + length ms
unfolding masks_from
masks-most ds [] = omega arith
masks-most ds (m ∷ ms) = omega (arith, masks-most (add_mask ds m) ms, (mask-length ds m).1)

pub kinds-most : (ds ms : List ℕ) → All (λ (k : ℕ). k ≤ length (masks_from ds ms)) (kinds_from ds ms)
unfolding masks_from kinds_from
kinds-most ds [] = tt
kinds-most ds (m ∷ ms) = (subst (λ (k : ℕ). k ≤ length (masks_from (add_mask ds m) ms)) (sym (kind-stays ds m ms)) below, kinds-most (add_mask ds m) ms)
  where
    below : kind_of (masks_from (add_mask ds m) ms) m ≤ length (masks_from (add_mask ds m) ms)
    below =
        by_zero (λ (b : Bool). pick b 0 (suc (place_of eqb m (masks_from (add_mask ds m) ms))) ≤ length (masks_from (add_mask ds m) ms)) m (λ e. omega arith)
        (λ h. place-below eqb m (masks_from (add_mask ds m) ms) (masks-there ds m ms h).0)

-- ---- what the masks give

-- what a mask gives is nothing, or is among the derived roles
abbrev pub Known : List Entry → Option Entry → Type 0
Known es None = Unit {0}
Known es (Some e) = there same e es ≡ true

pub known_next : (es : List Entry) (o : Option Entry) → Known (next_entries es o) o
unfolding next_entries
known_next es None = tt
known_next es (Some e) = add-there same same_self es e

-- then it adds nothing
pub known_same : (es : List Entry) (o : Option Entry) → Known es o → next_entries es o ≡ es
unfolding next_entries
known_same es None k = refl
known_same es (Some e) k = add-found same es e (place-below same e es k)

-- its mark is what it was before it was added
pub mark-next : (es : List Entry) (o : Option Entry) → mark_of (next_entries es o) o ≡ mark_of es o
unfolding next_entries mark_of
mark-next es None = refl
mark-next es (Some e) = ap suc (place-add same same_self es e)

-- another that is added changes neither
known_step : (es : List Entry) (o p : Option Entry) → Known es o → Known (next_entries es p) o × (mark_of (next_entries es p) o ≡ mark_of es o)
unfolding next_entries mark_of add_all
known_step es None p k = (tt, refl)
known_step es (Some e) None k = (k, refl)
known_step es (Some e) (Some d) k = (add_all-keeps same e es (d ∷ []) k, ap suc (place-stays same e es (d ∷ []) k))

-- what a function gives, at an index
pub map_at : (f : ℕ → ℕ) (l : List ℕ) (i : ℕ) → i < length l → get_or (map f l) i 0 ≡ f (get_or l i 0)
map_at f [] i h = absurd (omega arith)
map_at f (x ∷ l) zero h = refl
map_at f (x ∷ l) (suc i) h = map_at f l i (omega arith)

module _ (g : ℕ → Option Entry) where
  known-stays : (es : List Entry) (o : Option Entry) (ms : List ℕ) → Known es o → Known (derived_from g es ms) o × (mark_of (derived_from g es ms) o ≡ mark_of es o)
  unfolding derived_from
  known-stays es o [] k = (k, refl)
  known-stays es o (m ∷ ms) k =
      let s = known_step es o (g m) k in
      let r = known-stays (next_entries es (g m)) o ms s.0 in
      (r.0, r.1 ∙ s.1)

  known-there : (es : List Entry) (m : ℕ) (ms : List ℕ) → there eqb m ms ≡ true → Known (derived_from g es ms) (g m)
  unfolding derived_from any
  known-there es m [] h = clash true refl (sym h)
  known-there es m (n ∷ ms) h =
      ⊎_elim
      (λ e.
      let q : n ≡ m = sym (eqb-true m n e) in
      subst (λ (x : ℕ). Known (derived_from g (next_entries es (g n)) ms) (g x)) q (known-stays (next_entries es (g n)) (g n) ms (known_next es (g n))).0)
      (λ k. known-there (next_entries es (g n)) m ms k)
      (or_yes (eqb m n) (there eqb m ms) h)

  derived-end : (es : List Entry) (ms : List ℕ) (m : ℕ) → derived_from g es (ms ++ (m ∷ [])) ≡ next_entries (derived_from g es ms) (g m)
  unfolding derived_from
  derived-end es [] m = refl
  derived-end es (n ∷ ms) m = derived-end (next_entries es (g n)) ms m

  -- each mark is the place among all derived roles
  pub marks-are : (es : List Entry) (ms : List ℕ) → marks_from g es ms ≡ map (λ (m : ℕ). mark_of (derived_from g es ms) (g m)) ms
  unfolding marks_from derived_from
  marks-are es [] = refl
  marks-are es (m ∷ ms) =
      let next = next_entries es (g m) in
      ap₂ ◌∷◌ (sym ((known-stays next (g m) ms (known_next es (g m))).1 ∙ mark-next es (g m))) (marks-are next ms)

  module _ (none-at : g 0 ≡ None) where
    -- a mask that is there already, or is 0, gives nothing new
    derived-add : (ds : List ℕ) (m : ℕ) → derived_from g [] (add_mask ds m) ≡ next_entries (derived_from g [] ds) (g m)
    unfolding next_entries
    derived-add ds m =
        mask-cases P ds m (λ e. sym (ap (λ (o : Option Entry). next_entries (derived_from g [] ds) o) (ap g e ∙ none-at)))
        (λ e. add-cases eqb P ds m (λ h. sym (known_same (derived_from g [] ds) (g m) (known-there [] m ds h))) (λ h. derived-end [] ds m))
      where
        P : List ℕ → Type 0
        P l = derived_from g [] l ≡ next_entries (derived_from g [] ds) (g m)

    derived-more : (ds ms : List ℕ) → derived_from g [] (masks_from ds ms) ≡ derived_from g (derived_from g [] ds) ms
    unfolding derived_from masks_from
    derived-more ds [] = refl
    derived-more ds (m ∷ ms) = derived-more (add_mask ds m) ms ∙ ap (λ (es : List Entry). derived_from g es ms) (derived-add ds m)

    pub derived-kinds : (ms : List ℕ) → derived_from g [] (masks_from [] ms) ≡ derived_from g [] ms
    unfolding derived_from
    derived-kinds ms = derived-more [] ms

    pub marks-kinds : (ms : List ℕ) → map (by_kind (0 ∷ marks_from g [] (masks_from [] ms))) (kinds_from [] ms) ≡ marks_from g [] ms
    unfolding mark_of
    marks-kinds ms = kinds-are (by_kind ks) [] ms ∙ map_same (λ (m : ℕ). by_kind ks (kind_of ds m)) mark ms (all-with at ms (all_there [] ms)) ∙ sym (marks-are [] ms)
      where
        ds : List ℕ
        ds = masks_from [] ms

        ks : List ℕ
        ks = 0 ∷ marks_from g [] ds

        mark : ℕ → ℕ
        mark m = mark_of (derived_from g [] ms) (g m)

        at : (m : ℕ) → ((m ≡ 0 → ⊥) → there eqb m ds ≡ true) → by_kind ks (kind_of ds m) ≡ mark m
        at m h =
            by_zero (λ (b : Bool). by_kind ks (pick b 0 (suc (place_of eqb m ds))) ≡ mark m) m
            (λ e. sym (ap (mark_of (derived_from g [] ms)) (ap g e ∙ none-at)))
            (λ e.
            let k = h e in
            ap (λ (l : List ℕ). get_or l (place_of eqb m ds) 0) (marks-are [] ds)
            ∙ map_at (λ (n : ℕ). mark_of (derived_from g [] ds) (g n)) ds (place_of eqb m ds) (place-below eqb m ds k)
            ∙ ap₂ (λ (es : List Entry) (n : ℕ). mark_of es (g n)) (derived-kinds ms) (place_is eqb (λ x y. eqb-true x y) m ds 0 k))
