-- The kind of one more mask, by its hours among those of the distinct masks.
--     masks-stretch, kinds-stretch  the masks and the kinds with one mask some times over
--     found-entered                 a mask whose hours the index entered
-- Assumes nothing.
use Prim.Native.Nat.{ℕ, zero, suc, ◌+◌, ◌%◌, ◌^◌, ◌≤◌, ◌<◌}
use mathlib.Core.Path.{◌≡◌, refl, sym, ◌∙◌, ap, ap₂, subst}
use mathlib.Core.Bool.{Bool, true, false, ◌||◌}
use mathlib.Core.List.{List, [], ◌∷◌, ◌++◌, map, map-append}
use native.Mathlib.Nat.{mod-lt}
use native.Mathlib.Omega.{arith}
use native.Mathlib.Numerals.{add-one}
use lib.Dec.{eqb}
use lib.ListN.{length, get_or, take, replicate}
use lib.Seq.{get_or-take, length-take-le}
use borrow.Author.Tests.{eq-eqb, ne_eqb, eqb-true, eqb-false}
use Rattle.ground.specs.Believed.Choice.{pick}
use Rattle.ground.specs.Believed.Search.{any}
use Rattle.ground.specs.Believed.Sequence.{All}
use Rattle.ground.proofs.BoolLaws.{eq-ext}
use Rattle.ground.proofs.SequenceLaws.{all-list_of, list_of-is}
use Rattle.bitset.specs.Believed.Sets.{insert}
use Rattle.rewrite_rules.specs.Believed.Distinct.{add_new, place_of}
use Rattle.rewrite_rules.specs.Kinds.{add_mask, masks_from, kind_of, kinds_from, masks_in}
use Rattle.rewrite_rules.proofs.TableDistinct.{add-there, add-found, place-add, place-below}
use Rattle.rewrite_index.specs.Entries.{after, KeyEntered}
use Rattle.rewrite_trees.proofs.KeyLaws.{users-key, key-small}
use Rattle.rewrite_masks.specs.Kinds.{Told, Held, Found}
use Rattle.rewrite_masks.proofs.MaskLaws.{bare-is}

-- ---- numbers by a function that tells them apart

module _ (f : ℕ → ℕ) (y : ℕ) where
  -- it tells y from each of a list
  abbrev Apart : List ℕ → Type 0
  Apart l = All (λ (x : ℕ). eqb (f y) (f x) ≡ eqb y x) l

  place-by : (l : List ℕ) → Apart l → place_of eqb (f y) (map f l) ≡ place_of eqb y l
  unfolding place_of
  place-by [] p = refl
  place-by (x ∷ l) p = ap₂ (λ (b : Bool) (k : ℕ). pick b 0 (suc k)) p.0 (place-by l p.1)

  there-by : (l : List ℕ) → Apart l → any (eqb (f y)) (map f l) ≡ any (eqb y) l
  unfolding any
  there-by [] p = refl
  there-by (x ∷ l) p = ap₂ ◌||◌ p.0 (there-by l p.1)

  add-by : (l : List ℕ) → Apart l → add_new eqb (map f l) (f y) ≡ map f (add_new eqb l y)
  unfolding add_new
  add-by l p = ap (λ (b : Bool). pick b (map f l) (map f l ++ (f y ∷ []))) (there-by l p) ∙ go (any (eqb y) l)
    where
      go : (b : Bool) → pick b (map f l) (map f l ++ (f y ∷ [])) ≡ map f (pick b l (l ++ (y ∷ [])))
      go true = refl
      go false = sym (map-append f l (y ∷ []))

-- ---- one mask some times over

module _ (ds : List ℕ) (m : ℕ) where
  same_self : (x : ℕ) → eqb x x ≡ true
  same_self x = eq-eqb x x refl

  again : add_mask (add_mask ds m) m ≡ add_mask ds m
  again = go (eqb m 0)
    where
      go : (b : Bool) → pick b (pick b ds (add_new eqb ds m)) (add_new eqb (pick b ds (add_new eqb ds m)) m) ≡ pick b ds (add_new eqb ds m)
      go true = refl
      go false = add-found eqb (add_new eqb ds m) m (place-below eqb m (add_new eqb ds m) (add-there eqb same_self ds m))

  kind-again : kind_of (add_mask ds m) m ≡ kind_of ds m
  kind-again = go (eqb m 0)
    where
      go : (b : Bool) → pick b 0 (suc (place_of eqb m (pick b ds (add_new eqb ds m)))) ≡ pick b 0 (suc (place_of eqb m ds))
      go true = refl
      go false = ap suc (place-add eqb same_self ds m)

  module _ (rest : List ℕ) where
    masks-again : (l : ℕ) → masks_from (add_mask ds m) (replicate l m ++ rest) ≡ masks_from (add_mask ds m) rest
    unfolding masks_from
    masks-again zero = refl
    masks-again (suc l) = ap (λ (q : List ℕ). masks_from q (replicate l m ++ rest)) again ∙ masks-again l

    kinds-again : (l : ℕ) → kinds_from (add_mask ds m) (replicate l m ++ rest) ≡ replicate l (kind_of ds m) ++ kinds_from (add_mask ds m) rest
    unfolding kinds_from
    kinds-again zero = refl
    kinds-again (suc l) =
        ap₂ (λ (k : ℕ) (q : List ℕ). k ∷ kinds_from q (replicate l m ++ rest)) kind-again again ∙ ap (λ (q : List ℕ). kind_of ds m ∷ q) (kinds-again l)

    pub masks-stretch : (l : ℕ) → 0 < l → masks_from ds (replicate l m ++ rest) ≡ masks_from (add_mask ds m) rest
    unfolding masks_from
    masks-stretch zero h = absurd (omega arith)
    masks-stretch (suc l) h = masks-again l

    pub kinds-stretch : (l : ℕ) → 0 < l → kinds_from ds (replicate l m ++ rest) ≡ replicate l (kind_of ds m) ++ kinds_from (add_mask ds m) rest
    unfolding kinds_from
    kinds-stretch zero h = absurd (omega arith)
    kinds-stretch (suc l) h = ap (λ (q : List ℕ). kind_of ds m ∷ q) (kinds-again l)

-- ---- one mask more

abbrev with_always : ℕ → ℕ
with_always x = insert x 32

-- the bit for always tells nothing
always-apart : (x y : ℕ) → x < 2 ^ 32 → y < 2 ^ 32 → eqb (with_always y) (with_always x) ≡ eqb y x
always-apart x y hx hy =
    eq-ext (eqb (with_always y) (with_always x)) (eqb y x)
    (λ e. eq-eqb y x (sym (bare-is y hy) ∙ ap (λ (z : ℕ). z % 4294967296) (eqb-true (with_always y) (with_always x) e) ∙ bare-is x hx))
    (λ e. eq-eqb (with_always y) (with_always x) (ap with_always (eqb-true y x e)))

-- the hours that the index has are apart from others
held-apart : {w : ℕ} (d : ℕ) (sets : List ℕ) {links : List ℕ} → Held w d sets links → d ≤ length sets → (y : ℕ) → y < 2 ^ 32 → Apart with_always y (take d sets)
held-apart d sets x room y hy =
    let n = length-take-le d sets room in
    subst (Apart with_always y)
    (list_of-is d (λ (k : ℕ). get_or sets k 0) (take d sets) 0 (sym n) (λ i h. sym (get_or-take d sets i 0 (omega arith))))
    (all-list_of (λ (z : ℕ). eqb (with_always y) (with_always z) ≡ eqb y z) d (λ (k : ℕ). get_or sets k 0)
    (λ k h. always-apart (get_or sets k 0) y (key-small (get_or sets k 0) (rw (users-key sets k) at (x.users-within k h))) hy))

module _ (m d : ℕ) (sets : List ℕ) where
  -- one whose hours the index entered
  module _ {w : ℕ} {links : List ℕ} (held : Held w d sets links) (room : d ≤ length sets) (ne : m ≡ 0 → ⊥) (told : Told m) (k : ℕ) (sets' : List ℕ)
      (x : KeyEntered (m % 4294967296) d sets sets' k) where
    abbrev hours : ℕ
    hours = m % 4294967296

    apart : Apart with_always hours (take d sets)
    apart = held-apart d sets held room hours (mod-lt m (omega arith))

    place-then : k ≡ place_of eqb m (masks_in sets d)
    place-then =
        x.place ∙ sym (place-by with_always hours (take d sets) apart) ∙ ap (λ (z : ℕ). place_of eqb z (map with_always (take d sets))) (told ne)
        ∙ (unfold masks_in in refl)

    sets_then : masks_in sets' (after d k) ≡ add_new eqb (masks_in sets d) m
    unfolding masks_in
    sets_then =
        ap (map with_always) x.keys-then ∙ sym (add-by with_always hours (take d sets) apart)
        ∙ ap (add_new eqb (map with_always (take d sets))) (told ne)

    pub found-entered : (n : ℕ) → n ≡ after d k → Found m d sets sets' (k + 1) n
    found-entered n e =
        record {
          kind-is = add-one k ∙ ap suc place-then ∙ ap (λ (b : Bool). pick b 0 (suc (place_of eqb m (masks_in sets d)))) (sym (ne_eqb m 0 ne));
          masks-then =
              ap (masks_in sets') e ∙ sets_then ∙ ap (λ (b : Bool). pick b (masks_in sets d) (add_new eqb (masks_in sets d) m)) (sym (ne_eqb m 0 ne));
          most = more (eqb k d) e;
          small = small (eqb k d) refl e;
        }
      where
        more : (b : Bool) → n ≡ pick b (d + 1) d → n ≤ d + 1
        more true q = omega arith
        more false q = omega arith

        small : (b : Bool) → eqb k d ≡ b → n ≡ pick b (d + 1) d → k + 1 ≤ n
        small true z q = omega (arith, x.most)
        small false z q = let h : k ≡ d → ⊥ = eqb-false k d z in omega (arith, x.most)

pub after-old : (d k : ℕ) → k < d → d ≡ after d k
after-old d k h = rw (ne_eqb k d (λ e. omega arith))

pub after-new : (d k : ℕ) → k ≤ d → d ≤ k → d + 1 ≡ after d k
after-new d k h l = let e : k ≡ d = omega arith in rw (eq-eqb k d e)
