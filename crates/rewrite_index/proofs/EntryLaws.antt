-- Pairs of sets as entries: one by one, the place of one, and one more.
-- Assumes nothing.
use Prim.Native.Nat.{ℕ, zero, suc, ◌+◌, ◌*◌, ◌≤◌, ◌<◌}
use mathlib.Core.Path.{◌≡◌, refl, sym, ◌∙◌, ap, ap₂, subst}
use mathlib.Core.Bool.{Bool, true, false, ◌&&◌, and-false}
use mathlib.Core.List.{List, [], ◌∷◌, ◌++◌}
use native.Mathlib.Omega.{arith}
use native.Mathlib.Numerals.{add-one}
use lib.Dec.{eqb}
use lib.ListN.{length, get_or, drop}
use lib.Seq.{drop-cons, drop-length}
use borrow.Author.Tests.{eq-eqb, ne_eqb, eqb-true}
use Rattle.ground.specs.Believed.Choice.{pick}
use Rattle.ground.proofs.SequenceLaws.{list_of-length, list_of-more, list_of-same, get-list_of}
use Rattle.table.specs.Believed.Table.{Entry}
use Rattle.table.specs.Inside.{entry_made}
use Rattle.rewrite_rules.specs.Believed.Distinct.{place_of}
use Rattle.rewrite_rules.specs.Believed.Rewriting.{same}
use Rattle.rewrite_rules.proofs.TableDistinct.{place-most, add-found, add-end}
use Rattle.rewrite_index.specs.Entries.{entry_at, entries_to, with_pair, after, Entered}
use Rattle.rewrite_trees.specs.Tree.{users_at, permissions_at, Absent, Indexed}
use Rattle.rewrite_index.proofs.PairLaws.{users-kept, permissions-kept, users-new, permissions-new}

-- ---- one by one

module _ (source n : ℕ) (pairs : List ℕ) where
  pub entries-length : length (entries_to source n pairs) ≡ n
  unfolding entries_to
  entries-length = list_of-length n (entry_at source pairs)

  entry-is : (k : ℕ) (e : Entry) → k < n → get_or (entries_to source n pairs) k e ≡ entry_at source pairs k
  unfolding entries_to
  entry-is k e h = get-list_of n (entry_at source pairs) e k h

  -- the entries from i on
  pub left-turn : (i : ℕ) → i < n → drop i (entries_to source n pairs) ≡ entry_at source pairs i ∷ drop (i + 1) (entries_to source n pairs)
  left-turn i h =
      drop-cons (entries_to source n pairs) i (entry_at source pairs i) (omega (arith, entries-length))
      ∙ ap₂ (λ (e : Entry) (k : ℕ). e ∷ drop k (entries_to source n pairs)) (entry-is i (entry_at source pairs i) h) (sym (add-one i))

  pub left-none : (i : ℕ) → i ≡ n → drop i (entries_to source n pairs) ≡ []
  left-none i e = ap (λ (k : ℕ). drop k (entries_to source n pairs)) (e ∙ sym entries-length) ∙ drop-length (entries_to source n pairs)

pub entries_none : (source : ℕ) (pairs : List ℕ) → entries_to source 0 pairs ≡ []
entries_none source pairs = left-none source 0 pairs 0 refl

-- ---- the place of an entry

module _ {A : Type 0} (alike : A → A → Bool) (x : A) where
  -- not after a place where it stands
  pub place-upto : (l : List A) (k : ℕ) (z : A) → k < length l → alike x (get_or l k z) ≡ true → place_of alike x l ≤ k
  unfolding place_of
  place-upto [] k z h t = absurd (omega arith)
  place-upto (y ∷ l) zero z h t = rw t (omega arith)
  place-upto (y ∷ l) (suc k) z h t = go (alike x y) (place-upto l k z (omega arith) t)
    where
      go : (b : Bool) → place_of alike x l ≤ k → pick b 0 (suc (place_of alike x l)) ≤ suc k
      go true i = omega arith
      go false i = omega arith

  -- not among the first k where it is not there
  pub place-from : (l : List A) (k : ℕ) (z : A) → k ≤ length l → ((i : ℕ) → i < k → alike x (get_or l i z) ≡ false) → k ≤ place_of alike x l
  unfolding place_of
  place-from l zero z h f = omega arith
  place-from [] (suc k) z h f = absurd (omega arith)
  place-from (y ∷ l) (suc k) z h f = let q = place-from l k z (omega arith) (λ i w. f (suc i) (omega arith)) in rw (f 0 (omega arith)) (omega arith)

module _ (source u p : ℕ) where
  same-entry : (x y : ℕ) → x ≡ u → y ≡ p → same (entry_made source u p) (entry_made source x y) ≡ true
  same-entry x y eu ep = rw (eq-eqb source source refl, eq-eqb u x (sym eu), eq-eqb p y (sym ep))

  other-entry : (x y : ℕ) → (x ≡ u → y ≡ p → ⊥) → same (entry_made source u p) (entry_made source x y) ≡ false
  other-entry x y other = go (eqb u x) (eqb p y) refl refl
    where
      go : (a b : Bool) → eqb u x ≡ a → eqb p y ≡ b → same (entry_made source u p) (entry_made source x y) ≡ false
      go true true e f = absurd (other (sym (eqb-true u x e)) (sym (eqb-true p y f)))
      go false b e f = rw (eq-eqb source source refl, e)
      go true false e f = rw f (and-false (eqb source source && eqb u x))

-- ---- one more

module _ (source d : ℕ) (pairs : List ℕ) (u p : ℕ) where
  abbrev entry : Entry
  entry = entry_made source u p

  abbrev entries : List Entry
  entries = entries_to source d pairs

  last_of : (k : ℕ) → k < d → users_at pairs k ≡ u → permissions_at pairs k ≡ p → place_of same entry entries ≤ k
  last_of k h eu ep =
      place-upto same entry entries k entry (omega (arith, entries-length source d pairs))
      (ap (same entry) (entry-is source d pairs k entry h) ∙ same-entry source u p (users_at pairs k) (permissions_at pairs k) eu ep)

  first-of : (k : ℕ) → k ≤ d → Absent k pairs u p → k ≤ place_of same entry entries
  first-of k h a =
      place-from same entry entries k entry (omega (arith, entries-length source d pairs))
      (λ i w. ap (same entry) (entry-is source d pairs i entry (omega arith)) ∙ other-entry source u p (users_at pairs i) (permissions_at pairs i) (a.nowhere i w))

  -- the pair is there
  pub entered-old : (k : ℕ) → k < d → users_at pairs k ≡ u → permissions_at pairs k ≡ p → Absent k pairs (users_at pairs k) (permissions_at pairs k)
      → Entered source entry d pairs pairs k
  entered-old k h eu ep a =
      let e : k ≡ place_of same entry entries = omega (arith, first-of k (omega arith) (rw (eu, ep) at a), last_of k h eu ep) in
      record {
        place = e;
        most = omega arith;
        entries-then =
            ap (λ (b : Bool). entries_to source (pick b (d + 1) d) pairs) (ne_eqb k d (λ z. omega arith))
            ∙ sym (add-found same entries entry (omega (arith, entries-length source d pairs)));
      }

  -- with the pair as the next one
  entries-more : 2 * d + 1 < length pairs → entries_to source (d + 1) (with_pair pairs d u p) ≡ entries ++ (entry ∷ [])
  unfolding entries_to
  entries-more h =
      let q = with_pair pairs d u p in
      list_of-more d (entry_at source q)
      ∙ ap₂ (λ (l : List Entry) (e : Entry). l ++ (e ∷ []))
      (list_of-same d (entry_at source q) (entry_at source pairs) (λ k l. ap₂ (entry_made source) (users-kept pairs d u p k l) (permissions-kept pairs d u p k l)))
      (ap₂ (entry_made source) (users-new pairs d u p h) (permissions-new pairs d u p h))

  -- it is not, and comes next
  pub entered-new : 2 * d + 1 < length pairs → (pairs' : List ℕ) → pairs' ≡ with_pair pairs d u p → Absent d pairs u p → Entered source entry d pairs pairs' d
  entered-new h pairs' q a =
      let e : d ≡ place_of same entry entries
      = omega (arith, first-of d (omega arith) a, place-most same entry entries, entries-length source d pairs) in
      record {
        place = e;
        most = omega arith;
        entries-then =
            ap₂ (λ (b : Bool) (l : List ℕ). entries_to source (pick b (d + 1) d) l) (eq-eqb d d refl) q
            ∙ entries-more h
            ∙ sym (add-end same entries entry (omega (arith, entries-length source d pairs)));
      }

-- the tree of as many pairs as there are then
pub index-old : {w d : ℕ} {pairs links : List ℕ} {a b : ℕ} → Indexed w d pairs links a b → (k : ℕ) → k < d → Indexed w (after d k) pairs links a b
index-old {w} {d} {pairs} {links} {a} {b} x k h =
    subst (λ (t : Bool). Indexed w (pick t (d + 1) d) pairs links a b) (sym (ne_eqb k d (λ e. omega arith))) x

pub index-new : (d : ℕ) {w : ℕ} {pairs links : List ℕ} {a b : ℕ} → Indexed w (d + 1) pairs links a b → Indexed w (after d d) pairs links a b
index-new d {w} {pairs} {links} {a} {b} x = subst (λ (t : Bool). Indexed w (pick t (d + 1) d) pairs links a b) (sym (eq-eqb d d refl)) x
