-- One key more, and the place of a key.
--     index-add-key                         the index with one key more
--     key-entered-old, key-entered-new      a key that is there, and one that comes next
-- Assumes nothing.
use Prim.Native.Nat.{ℕ, zero, suc, ◌+◌, ◌*◌, ◌^◌, ◌≤◌, ◌<◌}
use mathlib.Core.Path.{◌≡◌, refl, sym, ◌∙◌, ap, ap₂}
use mathlib.Core.Bool.{Bool}
use mathlib.Core.List.{List, [], ◌∷◌}
use native.Mathlib.Omega.{arith}
use native.Mathlib.Numerals.{add-one}
use lib.Dec.{eqb}
use lib.ListN.{length, get_or, take, set}
use lib.Seq.{get_or-take, length-take-le, take-suc-set}
use borrow.Author.Tests.{eq-eqb, ne_eqb}
use Rattle.ground.specs.Believed.Choice.{pick}
use Rattle.rewrite_rules.specs.Believed.Distinct.{place_of}
use Rattle.rewrite_rules.proofs.TableDistinct.{place-most, add-found, add-end}
use Rattle.rewrite_index.specs.Entries.{with_pair, linked, KeyEntered}
use Rattle.rewrite_trees.specs.Tree.{users_at, permissions_at, key_pairs, Absent, Indexed, Ends}
use Rattle.rewrite_trees.proofs.KeyLaws.{users-key, permissions-key, key-within, nothing-within}
use Rattle.rewrite_index.proofs.LinkLaws.{index-add}
use Rattle.rewrite_index.proofs.EntryLaws.{place-upto, place-from}

-- ---- the keys as pairs

pairs-length : (keys : List ℕ) → length (key_pairs keys) ≡ 2 * length keys
unfolding key_pairs
pairs-length [] = refl
pairs-length (x ∷ keys) = omega (arith, pairs-length keys)

pairs_set : (keys : List ℕ) (d m : ℕ) → key_pairs (set keys d m) ≡ with_pair (key_pairs keys) d m 0
unfolding key_pairs with_pair
pairs_set [] d m = refl
pairs_set (x ∷ keys) zero m = refl
pairs_set (x ∷ keys) (suc d) m =
    let e : suc (suc (2 * d)) ≡ 2 * suc d = omega arith in
    let f : suc (suc (2 * d + 1)) ≡ 2 * suc d + 1 = omega arith in
    ap (λ (l : List ℕ). x ∷ 0 ∷ l) (pairs_set keys d m) ∙ ap₂ (λ (i j : ℕ). set (set (x ∷ 0 ∷ key_pairs keys) i m) j 0) e f

-- the index with one key more, linked where its walk ended
pub index-add-key : (w : ℕ) → 0 < w → (d : ℕ) (keys : List ℕ) (m : ℕ) → d < length keys → m < 2 ^ 32 → {links : List ℕ} {hook : ℕ} → Indexed w d (key_pairs keys) links 4294967295 0
    → w + 2 * d + 1 < length links → Absent d (key_pairs keys) m 0 → Ends w d links 4294967295 0 m 0 hook → (then : List ℕ) → then ≡ linked links w d hook
    → Indexed w (d + 1) (key_pairs (set keys d m)) then 4294967295 0
index-add-key w pos d keys m room fits x hl new ends then e =
    rw (pairs_set keys d m)
    (index-add w pos d (key_pairs keys) m 0 (omega (arith, pairs-length keys)) x hl (key-within m fits) (nothing-within 0) new ends then e)

-- ---- the place of a key

module _ (keys : List ℕ) (d m : ℕ) (room : d ≤ length keys) where
  long : length (take d keys) ≡ d
  long = length-take-le d keys room

  key-last : (k : ℕ) → k < d → users_at (key_pairs keys) k ≡ m → place_of eqb m (take d keys) ≤ k
  key-last k h e =
      place-upto eqb m (take d keys) k 0 (omega (arith, long)) (eq-eqb m (get_or (take d keys) k 0) (sym (get_or-take d keys k 0 h ∙ sym (users-key keys k) ∙ e)))

  key-first : (k : ℕ) → k ≤ d → Absent k (key_pairs keys) m 0 → k ≤ place_of eqb m (take d keys)
  key-first k h a =
      place-from eqb m (take d keys) k 0 (omega (arith, long))
      (λ i l. ne_eqb m (get_or (take d keys) i 0) (λ e. a.nowhere i l (users-key keys i ∙ sym (e ∙ get_or-take d keys i 0 (omega arith))) (permissions-key keys i)))

  -- it is there
  pub key-entered-old : (k : ℕ) → k < d → users_at (key_pairs keys) k ≡ m → Absent k (key_pairs keys) (users_at (key_pairs keys) k) (permissions_at (key_pairs keys) k)
      → KeyEntered m d keys keys k
  key-entered-old k h e a =
      let q : k ≡ place_of eqb m (take d keys) = omega (arith, key-last k h e, key-first k (omega arith) (rw (e, permissions-key keys k) at a)) in
      record {
        place = q;
        most = omega arith;
        keys-then =
            ap (λ (b : Bool). take (pick b (d + 1) d) keys) (ne_eqb k d (λ z. omega arith)) ∙ sym (add-found eqb (take d keys) m (omega (arith, long)));
      }

  -- it is not, and comes next
  pub key-entered-new : d < length keys → Absent d (key_pairs keys) m 0 → KeyEntered m d keys (set keys d m) d
  key-entered-new h a =
      let q : d ≡ place_of eqb m (take d keys) = omega (arith, key-first d (omega arith) a, place-most eqb m (take d keys), long) in
      record {
        place = q;
        most = omega arith;
        keys-then =
            ap (λ (b : Bool). take (pick b (d + 1) d) (set keys d m)) (eq-eqb d d refl)
            ∙ ap (λ (n : ℕ). take n (set keys d m)) (add-one d)
            ∙ take-suc-set keys d m h
            ∙ sym (add-end eqb (take d keys) m (omega (arith, long)));
      }
